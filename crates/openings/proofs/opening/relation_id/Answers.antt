use Prim.Native.Nat.{◌+◌}
use mathlib.Core.Path.{◌≡◌}
use native.Mathlib.Omega.{arith}
use lib.ListN.{get_or-eq_default}
use Rattle.wire.specs.Words.{byte_at}
use Rattle.dictionary.specs.Internal.Walk.{relation_at}
use Rattle.openings.proofs.opening.relation_id.Goals as goal

pub returns-then-place-dictionary : goal.returns-then-place-dictionary
unfolding relation_at
returns-then-place-dictionary c = c.word_at.ensures.0

pub returns-else-place-dictionary : goal.returns-else-place-dictionary
unfolding relation_at
returns-else-place-dictionary c = let d = c.args.dictionary.now in
    let e : byte_at d (c.args.place + 4) ≡ 0 = get_or-eq_default d 0 (omega (arith, c.if-place-dictionary.false)) in
    let f : byte_at d (c.args.place + 4 + 1) ≡ 0 = get_or-eq_default d 0 (omega (arith, c.if-place-dictionary.false)) in
    rw (e, f)
