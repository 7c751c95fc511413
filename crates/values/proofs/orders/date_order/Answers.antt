-- `values::orders::date_order` meets its contract. Assumes nothing.
use mathlib.Core.Path.{◌≡◌, refl, sym, ◌∙◌}
use Rattle.std.specs.Ordering.{ordering_then}
use Rattle.std.specs.declared.cmp.Ordering.{Ordering}
use Rattle.std.specs.declared.cmp.Ordering.TheVariants.{Less, Equal, Greater}
use Rattle.wire.specs.Orders.{where_equal, order_ℤ, order_ℕ}
use Rattle.wire.proofs.Compared.{cmp-order_ℤ, cmp-order_ℕ}
use Rattle.meaning.specs.Data.{date_order}
use Rattle.values.proofs.orders.date_order.Goals as goal

then_is : (o p : Ordering) → ordering_then o p ≡ where_equal o p
then_is Less p = refl
then_is Equal p = refl
then_is Greater p = refl

pub returns : goal.returns
unfolding date_order
returns c =
    rw (
      c.then.ensures,
      c.cmp.ensures,
      c.cmp-2.ensures,
      cmp-order_ℤ,
      cmp-order_ℕ,
      date_order,
    )
    (then_is (order_ℤ c.args.a.day c.args.b.day) (order_ℕ c.args.a.fraction c.args.b.fraction))
