-- `messages::declared::find` meets its contract. By what std's `take` and `position` give. Assumes nothing.
use Rattle.std.proofs.Common.{rules, tests}
use Rattle.std.proofs.lemmas.Iterator.{YieldsList-from_slice, YieldsList-from_take}
use Rattle.std.proofs.lemmas.Iterator.Search.{position_from_yields_List}
use mathlib.Core.Path.{ap, ◌∙◌}
use native.Mathlib.Omega.{arith}
use lib.Dec.{eqb}
use lib.ListN.{take, drop}
use Rattle.wire.specs.Options.{option_of}
use Rattle.wire.specs.Limits.{max_messages}
use Rattle.scopes.proofs.Rests.{index-position}
use Rattle.messages.specs.Internal.Columns.{numbers_from}
use Rattle.messages.specs.Entries.{messages_held}
use Rattle.messages.proofs.Found.{message-index}
use Rattle.messages.proofs.declared.find.Goals as goal

pub returns : goal.returns
returns c = position_from_yields_List (λ x. eqb x c.args.m.0) _ _ c.position.result c.position.ensures.ran
    (YieldsList-from_take _ (YieldsList-from_slice (take max_messages (drop numbers_from c.args.around.now)) cc) c.take.ensures.count) (λ x b q k. search (rules, tests)) ∙
    index-position (λ x. eqb x c.args.m.0) (take (messages_held c.args.around.now) (take max_messages (drop numbers_from c.args.around.now))) ∙
    ap option_of (message-index c.args.around.now c.args.m.0 (omega arith))
