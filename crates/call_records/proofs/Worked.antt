-- A worked case: a run of two recorded calls. There are such runs, so what is said of them isn't void.
use Rattle.std.proofs.Common.{refl, ℕ, ◌*◌, true, false, List, [], ◌∷◌, replicate}
use Rattle.std.specs.Prelude.{pos}
use Rattle.trau_alaw.specs.declared.Law.TheVariants.{A}
use Rattle.trau_orders.specs.declared.order.Order.{Order}
use Rattle.trau_orders.specs.declared.order.What.{What}
use Rattle.trau_orders.specs.declared.order.What.TheVariants.{OpenCall, CloseCall, Bridge, Unbridge, Level, Dtx}
use Rattle.trau_orders.specs.declared.order.DtxMode.TheVariants.{On, Off}
use Rattle.trau_orders.specs.Lists.{AreOrders}
use Rattle.call_coders.specs.declared.coders.Record.{Record}
use Rattle.run_spec.specs.Run.{Run}
use Rattle.call_records.specs.Turns.{Turn, alone, paired}
use Rattle.call_records.specs.Runs.{IsRecordedIn}

abbrev at : ℕ → What → Order
at t w = record { stamp = t; what = w }

-- what is recorded of a period, with these octets of Up and Pcm; those of Down and Out don't matter here
abbrev recorded : ℕ → ℕ → Record
recorded up pcm = record { up = replicate 40 up; pcm = replicate 160 pcm; down = replicate 40 0; out = replicate 160 0 }

-- Call 2 begins one period after call 1. They are bridged in call 1's periods 2 and 3, and call 1 goes on alone.
abbrev two : Run
two = record {
  lines = λ c. record { up = replicate (40 * 5) c; pcm = replicate (160 * 5) 213; up_failed = false; pcm_failed = false };
  orders =
      at 0 (OpenCall 1 A) ∷ at 0 (Dtx 1 Off) ∷ at 1 (OpenCall 2 A) ∷ at 1 (Dtx 2 On) ∷ at 2 (Bridge 1 2) ∷ at 3 (Level 1 (pos 5)) ∷ at 4 (Unbridge 2)
      ∷ at 5 (CloseCall 1) ∷ at 6 (CloseCall 2) ∷ [];
  periods = 8;
}

abbrev one : Record
one = recorded 1 213

abbrev other : Record
other = recorded 2 213

-- the turns of call 2 before the bridge, and those of call 1
abbrev other_before : List Turn
other_before = alone other (pos 256) true ∷ []

abbrev before : List Turn
before = alone one (pos 256) false ∷ alone one (pos 256) false ∷ []

-- the turns of each call after the bridge's first period
abbrev other_first : List Turn
other_first = paired other (pos 256) true 1 one before ∷ other_before

abbrev first : List Turn
first = paired one (pos 256) false 2 other other_before ∷ before

-- all turns
abbrev turns : List Turn
turns = alone one (pos 5) false ∷ paired one (pos 5) false 2 other other_first ∷ first

abbrev other_turns : List Turn
other_turns = alone other (pos 256) true ∷ alone other (pos 256) true ∷ paired other (pos 256) true 1 one first ∷ other_first

one_is_recorded : AreOrders two.orders → IsRecordedIn two 1 A turns
one_is_recorded orders = record {
  orders = orders;
  opened = refl;
  law_is = refl;
  up = refl;
  pcm = refl;
  ends = refl;
  turns = (record { level = refl; mode = refl; partner = tt; starts = refl }, (record { level = refl; mode = refl; partner = (refl, refl); starts = refl }, (record { level = refl; mode = refl; partner = (refl, refl); starts = refl }, (record { level = refl; mode = refl; partner = tt; starts = refl }, (record { level = refl; mode = refl; partner = tt; starts = refl }, tt)))));
}

other_is_recorded : AreOrders two.orders → IsRecordedIn two 2 A other_turns
other_is_recorded orders = record {
  orders = orders;
  opened = refl;
  law_is = refl;
  up = refl;
  pcm = refl;
  ends = refl;
  turns = (record { level = refl; mode = refl; partner = tt; starts = refl }, (record { level = refl; mode = refl; partner = tt; starts = refl }, (record { level = refl; mode = refl; partner = (refl, refl); starts = refl }, (record { level = refl; mode = refl; partner = (refl, refl); starts = refl }, (record { level = refl; mode = refl; partner = tt; starts = refl }, tt)))));
}
