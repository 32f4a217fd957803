-- For crates above: the orders that a text's lines spell have numbers in their ranges and stamps that never fall
-- (`orders_known`).
use Rattle.std.proofs.Common.{◌≡◌, ℕ, ◌+◌, ◌-◌, ◌≤◌, ◌<◌, List, length, get_or, arith, zero, suc, subst}
use Rattle.trau_orders.specs.declared.order.What.{What}
use Rattle.trau_orders.specs.declared.order.What.TheVariants.{OpenCall, CloseCall, Bridge, Unbridge, Level, Dtx}
use Rattle.trau_orders.specs.declared.order.Order.{Order}
use Rattle.trau_orders.specs.Grammar.{IsInRange}
use Rattle.trau_orders.specs.Lists.{NamesCalls, HasLevel, AreOrders}
use Rattle.trau_orders.specs.Text.{AreLines}

names_calls : (what : What) → IsInRange what → NamesCalls what
names_calls (OpenCall c law) is = is
names_calls (CloseCall c) is = is
names_calls (Bridge a b) is = is
names_calls (Unbridge c) is = is
names_calls (Level c v) is = is.0
names_calls (Dtx c m) is = is

has_level : (what : What) → IsInRange what → HasLevel what
has_level (OpenCall c law) is = tt
has_level (CloseCall c) is = tt
has_level (Bridge a b) is = tt
has_level (Unbridge c) is = tt
has_level (Level c v) is = (is.1, is.2)
has_level (Dtx c m) is = tt

-- the stamp n places on isn't below
rises : (lines : List (List ℕ)) (os : List Order) → AreLines lines os → (i n : ℕ) (d : Order) → i + n < length os →
    (get_or os i d).stamp ≤ (get_or os (i + n) d).stamp
rises lines os are i zero d within = let same : i + 0 ≡ i = omega arith in rw same (omega arith)
rises lines os are i (suc n) d within =
    let before = rises lines os are i n d (omega (arith, within)) in
    let step = are.rising (i + n) d (omega (arith, within)) in
    let place : i + suc n ≡ i + n + 1 = omega arith in
    rw place (omega (arith, before, step))

pub orders_known : (lines : List (List ℕ)) (os : List Order) → length lines ≤ 65536 → AreLines lines os → AreOrders os
orders_known lines os few are = record {
  few = omega (arith, are.one_each);
  calls = λ k d within. names_calls _ (are.spelled k d within).in_range;
  levels = λ k d within. has_level _ (are.spelled k d within).in_range;
  stamps = λ k d within. (are.spelled k d within).stamp;
  rising = λ i j d before within. let place : i + (j - i) ≡ j = omega (arith, before) in subst (λ k. (get_or os i d).stamp ≤ (get_or os k d).stamp) place
      (rises lines os are i (j - i) d (omega (arith, before, within)));
}
