-- Worked cases of the board.
use Rattle.std.proofs.Common.{◌≡◌, refl, ℕ, ◌+◌, true, false, Some, None, List, [], ◌∷◌, length, map, drop, if◌then◌else◌}
use Rattle.std.specs.Prelude.{◌==◌}
use Rattle.std.specs.Prelude.{Result, Ok, Err, pos}
use Rattle.trau_alaw.specs.declared.Law.TheVariants.{A, Mu}
use Rattle.trau_orders.specs.declared.order.Order.{Order}
use Rattle.trau_orders.specs.declared.order.What.{What}
use Rattle.trau_orders.specs.declared.order.What.TheVariants.{OpenCall, CloseCall, Bridge, Unbridge, Level}
use Rattle.trau_io.specs.declared.line.Side.TheVariants.{Up, Pcm}
use Rattle.trau_io.specs.declared.ends.Cause.TheVariants.{End, Fault, Limit}
use Rattle.switchboard.specs.declared.act.Act.{Act}
use Rattle.switchboard.specs.declared.act.Act.TheVariants as act
use Rattle.switchboard.specs.declared.act.Refusal.{Refusal}
use Rattle.switchboard.specs.declared.act.Refusal.TheVariants as refusal
use Rattle.switchboard.specs.Calls.{Done, law_at}
use Rattle.switchboard.specs.Runs.{done_of, left_of}
use Rattle.switchboard.specs.Ends.{Given, end_of, spans_of, whole_of}

abbrev at : ℕ → What → Order
at t w = record { stamp = t; what = w }

abbrev replies : (ℕ → ℕ) → List Order → List (Result Act Refusal)
replies whole orders = map (λ d. d.result) (done_of whole 1000 orders)

orders : List Order
orders =
    at 0 (OpenCall 1 A) ∷ at 0 (OpenCall 2 A) ∷ at 0 (OpenCall 3 Mu) ∷
    at 0 (OpenCall 1 Mu) ∷ at 0 (Bridge 1 1) ∷ at 0 (Bridge 1 2) ∷ at 0 (Bridge 3 2) ∷ at 0 (Unbridge 3) ∷
    at 1 (Unbridge 2) ∷ at 1 (Bridge 3 1) ∷ at 1 (CloseCall 3) ∷ at 1 (OpenCall 3 A) ∷ at 1 (Level 9 (pos 0)) ∷ []

the_replies : replies (λ c. 2) orders ≡
    Ok (act.Opened 1 A) ∷ Ok (act.Opened 2 A) ∷ Ok (act.Opened 3 Mu) ∷
    Err (refusal.AlreadyOpen 1) ∷ Err (refusal.SameCall 1) ∷ Ok (act.Bridged 1 2) ∷ Err (refusal.Bridged 2 1) ∷ Err (refusal.NotBridged 3) ∷
    Ok (act.Unbridged 1 2) ∷ Err (refusal.Draining 1 2) ∷ Ok (act.Closed 3 None) ∷ Err (refusal.NumberUsed 3) ∷ Err (refusal.NotOpen 9) ∷ []
unfolding orders
the_replies = refl

-- The law is that of the order that opened the call, and no refused order's.
the_laws : map (λ c. law_at c (done_of (λ c. 2) 1000 orders)) (1 ∷ 3 ∷ []) ≡ A ∷ Mu ∷ []
unfolding orders
the_laws = refl

-- At a stamp equal to its natural end a call is still open and bridged; past it neither. A bridge joins calls of unlike
-- laws.
late : List Order
late =
    at 0 (OpenCall 1 A) ∷ at 0 (OpenCall 2 A) ∷ at 0 (OpenCall 3 Mu) ∷ at 0 (Bridge 1 2) ∷
    at 2 (OpenCall 1 A) ∷ at 2 (Bridge 3 2) ∷ at 3 (Unbridge 2) ∷ at 3 (Bridge 2 3) ∷ at 3 (OpenCall 1 A) ∷ at 4 (CloseCall 3) ∷ []

the_late : drop 4 (replies (λ c. c + 1) late) ≡
    Err (refusal.AlreadyOpen 1) ∷ Err (refusal.Bridged 2 1) ∷ Err (refusal.NotBridged 2) ∷ Ok (act.Bridged 2 3) ∷ Err (refusal.NumberUsed 1) ∷ Ok
    (act.Closed 3 None) ∷ []
unfolding late
the_late = refl

-- A bridge that was over when its second call ended is not ended again by the `unbridge` of a later one.
again : List Order
again =
    at 0 (OpenCall 1 A) ∷ at 0 (OpenCall 2 A) ∷ at 0 (OpenCall 3 A) ∷ at 0 (OpenCall 4 A) ∷ at 0 (Bridge 1 2) ∷
    at 5 (Bridge 4 1) ∷ at 6 (Unbridge 1) ∷ at 6 (Bridge 3 1) ∷ at 7 (Bridge 1 3) ∷ at 7 (CloseCall 3) ∷ at 7 (Bridge 1 4) ∷ []

the_again : drop 5 (replies (λ c. if c == 2 then 3 else 20) again) ≡
    Ok (act.Bridged 4 1) ∷ Ok (act.Unbridged 4 1) ∷ Err (refusal.Draining 1 4) ∷ Ok (act.Bridged 1 3) ∷ Ok (act.Closed 3 (Some 1)) ∷ Err
    (refusal.Draining 1 3) ∷ []
unfolding again
the_again = refl

-- ---- ends and spans

-- calls 7 and 9 bridged from 0; the Up line of 7 has 1213 octets, all else is longer
abbrev short_up : ℕ → Given
short_up c = if c == 7 then record { up = 1213; pcm = 6400; up_failed = false; pcm_failed = false }
    else record { up = 1600; pcm = 6400; up_failed = false; pcm_failed = false }

abbrev bridged_from_start : List Done
bridged_from_start = done_of (λ c. whole_of (short_up c)) 1000 (at 0 (OpenCall 7 A) ∷ at 0 (OpenCall 9 A) ∷ at 0 (Bridge 7 9) ∷ [])

seven_ends : end_of short_up 1000 bridged_from_start 7 0 ≡ record { call = 7; at = 30; cause = End Up 13 }
seven_ends = refl

nine_ends : end_of short_up 1000 bridged_from_start 9 0 ≡ record { call = 9; at = 40; cause = End Up 0 }
nine_ends = refl

bridge_ends : spans_of short_up 1000 bridged_from_start ≡ record { a = 7; b = 9; from = 0; to = 30 } ∷ []
bridge_ends = refl

-- a run of 3 periods with endless lines; an order is left
endless : ℕ → Given
endless c = record { up = 4000000; pcm = 16000000; up_failed = false; pcm_failed = false }

abbrev two_orders : List Order
two_orders = at 0 (OpenCall 1 A) ∷ at 9 (CloseCall 1) ∷ []

limit : (end_of endless 3 (done_of (λ c. whole_of (endless c)) 3 two_orders) 1 0 ≡ record { call = 1; at = 3; cause = Limit }) × (length (left_of 3 two_orders)
    ≡ 1)
unfolding endless
limit = (refl, refl)

-- the Pcm line of a call fails after 400 octets
abbrev failing_lines : ℕ → Given
failing_lines c = record { up = 400; pcm = 400; up_failed = false; pcm_failed = true }

fault : end_of failing_lines 1000 (done_of (λ c. whole_of (failing_lines c)) 1000 (at 0 (OpenCall 7 A) ∷ [])) 7 0 ≡ record { call = 7; at = 2; cause = Fault Pcm }
fault = refl
