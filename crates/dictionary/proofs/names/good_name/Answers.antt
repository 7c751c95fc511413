use Rattle.std.proofs.Common.{rules, ◌≡◌, sym, ◌∙◌}
use mathlib.Core.Logic.{inl, inr}
use Rattle.std.specs.List.{list_all}
use Rattle.std.proofs.lemmas.Iterator.{YieldsList-from_slice}
use Rattle.std.proofs.lemmas.Iterator.Search.{all_from_yields_List}
use Rattle.dictionary.proofs.Bytes.{name_byte, all_is, name-by-bytes, no_name, long-name, not-empty, is-empty}
use Rattle.dictionary.proofs.names.good_name.Goals as goal

pub returns : goal.returns
returns c =
    let e : c.all.result ≡ list_all name_byte c.args.s.now =
    all_from_yields_List name_byte _ _ _ c.all.ensures.ran (YieldsList-from_slice c.args.s.now cc) (λ x b q k. search rules) in
    e ∙ sym (all_is name_byte c.args.s.now) ∙ sym (name-by-bytes c.args.s.now (not-empty _ c.if-is_empty.ensures) c.if-s-gt-MAX_NAME_BYTES.false)

pub returns-then-is_empty : goal.returns-then-is_empty
returns-then-is_empty c = elim c.then-is_empty.either [
  | inl e ↦ no_name c.args.s.now (is-empty _ (sym e ∙ c.is_empty.ensures))
  | inr h ↦ long-name c.args.s.now h.1
]
