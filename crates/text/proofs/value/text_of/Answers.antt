use borrow.Author.Rules.{rules}
use Prim.Native.Nat.{◌≤◌}
use mathlib.Core.Path.{refl, sym, ◌∙◌}
use lib.ListN.{length}
use Rattle.text.proofs.PartLaws.{part-within, text-read}
use Rattle.text.specs.Value.{bytes_of}
use Rattle.text.proofs.value.text_of.Goals as goal

inside : (c : goal.In-Some) → (c.in-Some.start ≤ c.in-Some.end) × (c.in-Some.end ≤ length c.args.s.now)
inside c = part-within c.args.t c.args.s.now _ _ (sym c.text_part.ensures ∙ c.in-Some.is)

pub slice_bounds-result-count : goal.slice_bounds-result-count
slice_bounds-result-count c = let w = inside c in search rules

pub slice_bounds-result-start : goal.slice_bounds-result-start
slice_bounds-result-start c = let w = inside c in search rules

pub slice_bounds-result-end : goal.slice_bounds-result-end
slice_bounds-result-end c = let w = inside c in search rules

pub returns-in-Some : goal.returns-in-Some
unfolding bytes_of
returns-in-Some c = text-read c.args.t c.args.s.now _ _ (sym c.text_part.ensures ∙ c.in-Some.is) refl

pub returns-in-None : goal.returns-in-None
unfolding bytes_of
returns-in-None c = text-read c.args.t c.args.s.now _ _ (sym c.text_part.ensures ∙ c.in-None.is) refl
