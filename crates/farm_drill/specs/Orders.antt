-- The orders of a drill (this project's profile).
use Rattle.std.specs.Prelude.{ℕ, ◌+◌, ◌-◌, ◌/◌, ◌%◌, ◌==◌, Bool, List, ◌++◌, codes, map, filter}
use Rattle.std.specs.List.{range_with_len, flat_map}
use Rattle.trau_orders.specs.declared.order.Order.{Order}
use Rattle.trau_alaw.specs.declared.Law.TheVariants.{A}
use Rattle.trau_orders.specs.declared.order.What.TheVariants.{OpenCall, Bridge, Unbridge}
use Rattle.trau_orders.specs.Grammar.{order_line}

-- 0 open C
abbrev pub opening : ℕ → Order
opening call = record { stamp = 0; what = OpenCall call A }

-- Q bridge C C+1, with Q a quarter of the periods
abbrev pub bridging : ℕ → ℕ → Order
bridging periods call = record { stamp = periods / 4; what = Bridge call (call + 1) }

-- H unbridge C, with H half of the periods
abbrev pub unbridging : ℕ → ℕ → Order
unbridging periods call = record { stamp = periods / 2; what = Unbridge call }

-- the first of each four calls is bridged with the next one, if there is one
abbrev pub is_bridged : ℕ → Bool
is_bridged call = call % 4 == 1

unfoldable pub bridged_calls : ℕ → List ℕ
bridged_calls calls = filter is_bridged (range_with_len 1 (calls - 1))

-- all calls are opened, then bridges begin, then they end; each in call-number order
unfoldable pub drilled_orders : ℕ → ℕ → List Order
drilled_orders calls periods =
    map opening (range_with_len 1 calls)
    ++ map (bridging periods) (bridged_calls calls)
    ++ map (unbridging periods) (bridged_calls calls)

-- the text of orders: the line of each, with an LF at its end
abbrev pub order_text : Order → List ℕ
order_text order = order_line order ++ codes "\n"

unfoldable pub text_of : List Order → List ℕ
text_of orders = flat_map order_text orders
