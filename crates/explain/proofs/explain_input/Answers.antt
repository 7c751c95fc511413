-- `explain::explain_input` meets its contract: the entries stand inside the input, and the messages are the joined bodies. Assumes nothing.
use Prim.Native.Nat.{ℕ, ◌+◌, ◌-◌, ◌≤◌}
use mathlib.Core.Path.{◌≡◌, sym, ap₂, ◌∙◌}
use mathlib.Core.List.{List}
use native.Mathlib.Omega.{arith}
use lib.ListN.{length, take, drop, length-drop}
use lib.Seq.{length-take-le, take_all}
use Rattle.input.specs.Evaluation.{joined, Joined}
use Rattle.input.proofs.EntriesInside.{EntriesInside, evaluation-inside}
use Rattle.input.proofs.Joining.{joined_is}
use Rattle.explain.specs.Program.{listed}
use Rattle.explain.proofs.explain_input.Goals as goal

-- the messages are the joined bodies
messages :
    {s lent lent' : List ℕ} {request number records runs n : ℕ} → EntriesInside s request number records runs →
    Joined s (number + 6) 10 lent lent' n → 3000000 ≤ length lent → (n ≤ length lent') × (take n lent' ≡ joined s (number + 6) 10)
messages i h room = joined_is h (omega (arith, i.short, room))

pub returns-then-asks_row : goal.returns-then-asks_row
returns-then-asks_row c = rw (← c.evaluation_entries.ensures, c.in_ok-at.was, ← c.asks_row.ensures, c.if-asks_row.true)

pub overflow_add-at : goal.overflow_add-at
overflow_add-at c = let i = evaluation-inside _ _ (sym c.in_ok-at.was ∙ c.evaluation_entries.ensures) in omega arith

pub overflow_add-bytes : goal.overflow_add-bytes
overflow_add-bytes c = let i = evaluation-inside _ _ (sym c.in_ok-at.was ∙ c.evaluation_entries.ensures) in omega arith

pub slice_bounds-bytes-count : goal.slice_bounds-bytes-count
slice_bounds-bytes-count c = let i = evaluation-inside _ _ (sym c.in_ok-at.was ∙ c.evaluation_entries.ensures) in omega arith

pub slice_bounds-bytes-start : goal.slice_bounds-bytes-start
slice_bounds-bytes-start c = let i = evaluation-inside _ _ (sym c.in_ok-at.was ∙ c.evaluation_entries.ensures) in omega arith

pub slice_bounds-bytes-end : goal.slice_bounds-bytes-end
slice_bounds-bytes-end c = let i = evaluation-inside _ _ (sym c.in_ok-at.was ∙ c.evaluation_entries.ensures) in omega arith

pub slice_bounds-dictionary-count : goal.slice_bounds-dictionary-count
slice_bounds-dictionary-count c = let i = evaluation-inside _ _ (sym c.in_ok-at.was ∙ c.evaluation_entries.ensures) in omega arith

pub slice_bounds-dictionary-start : goal.slice_bounds-dictionary-start
slice_bounds-dictionary-start c = let i = evaluation-inside _ _ (sym c.in_ok-at.was ∙ c.evaluation_entries.ensures) in omega arith

pub slice_bounds-dictionary-end : goal.slice_bounds-dictionary-end
slice_bounds-dictionary-end c = let i = evaluation-inside _ _ (sym c.in_ok-at.was ∙ c.evaluation_entries.ensures) in omega arith

pub overflow_add-at-2 : goal.overflow_add-at-2
overflow_add-at-2 c = let i = evaluation-inside _ _ (sym c.in_ok-at.was ∙ c.evaluation_entries.ensures) in omega arith

pub slice_bounds-messages-end : goal.slice_bounds-messages-end
slice_bounds-messages-end c =
    let i = evaluation-inside _ _ (sym c.in_ok-at.was ∙ c.evaluation_entries.ensures) in
    (messages i c.join_bodies-joined.ensures c.requires).0

pub slice_bounds-messages-end-2 : goal.slice_bounds-messages-end-2
slice_bounds-messages-end-2 c =
    let i = evaluation-inside _ _ (sym c.in_ok-at.was ∙ c.evaluation_entries.ensures) in
    sym (length-take-le _ _ (messages i c.join_bodies-joined.ensures c.requires).0)

pub slice_bounds-rows-count : goal.slice_bounds-rows-count
slice_bounds-rows-count c = let i = evaluation-inside _ _ (sym c.in_ok-at.was ∙ c.evaluation_entries.ensures) in omega arith

pub slice_bounds-rows-start : goal.slice_bounds-rows-start
slice_bounds-rows-start c = let i = evaluation-inside _ _ (sym c.in_ok-at.was ∙ c.evaluation_entries.ensures) in omega arith

pub slice_bounds-rows-end : goal.slice_bounds-rows-end
slice_bounds-rows-end c = let i = evaluation-inside _ _ (sym c.in_ok-at.was ∙ c.evaluation_entries.ensures) in omega arith

pub slice_bounds-behind-count : goal.slice_bounds-behind-count
slice_bounds-behind-count c = let i = evaluation-inside _ _ (sym c.in_ok-at.was ∙ c.evaluation_entries.ensures) in omega arith

pub slice_bounds-behind-start : goal.slice_bounds-behind-start
slice_bounds-behind-start c = let i = evaluation-inside _ _ (sym c.in_ok-at.was ∙ c.evaluation_entries.ensures) in omega arith

pub returns : goal.returns
returns c =
    let i = evaluation-inside _ _ (sym c.in_ok-at.was ∙ c.evaluation_entries.ensures) in
    let m = messages i c.join_bodies-joined.ensures c.requires in
    let bytes = c.args.s.now in
    let runs = c.in_ok-at.at.runs in
    let all = take_all (length bytes - runs) (drop runs bytes) (omega (arith, length-drop runs bytes)) in
    let counts = rw (c.word_at-asked.ensures.0, m.1, all) at c.explain.ensures.counts in
    let filled = rw (c.word_at-asked.ensures.0, m.1, all) at c.explain.ensures.filled in
    rw (← c.evaluation_entries.ensures, c.in_ok-at.was, ← c.asks_row.ensures, c.if-asks_row.false) (ap₂ listed counts filled)

pub returns-in_err-at : goal.returns-in_err-at
returns-in_err-at c = rw (← c.evaluation_entries.ensures, c.in_err-at.was, c.from_residual.ensures)
