use Rattle.std.proofs.Common.{◌≡◌, ◌≤◌, Option, List, [], ◌∷◌, ◌++◌, length, slice_index_or, subst, ap, arith}
use Rattle.std.proofs.lemmas.List.{length-append}
use Rattle.crossbeam_queue.specs.declared.array_queue.Doing.{Doing}
use Rattle.crossbeam_queue.specs.declared.array_queue.Slotted.{Slotted}
use Rattle.farm_live.specs.declared.slot.Token.{Token}
use Rattle.farm_live.specs.declared.slot.View.{View}
use Rattle.farm_live.specs.declared.live.Caller.{Caller}
use Rattle.farm_live.specs.Live.{view_of, AreCallers, IsNewCaller}
use Rattle.call_tests.proofs.farm_live_tests.Alone.new.Goals as goal

-- the only caller of a new farm of one call
none_posted : {Q A : Type 0} (slots : List (Slotted (Option Token) (Doing Token View) Q A)) (cs front : List Caller) (caller : Caller) →
    length slots ≡ 1 → cs ≡ front ++ caller ∷ [] → AreCallers 2 1 slots cs → (s : _) → length (view_of (slice_index_or caller.seats.items 0 s)).made ≤ 0
none_posted [] cs front caller one is all s = absurd (omega (arith, one))
none_posted (slot ∷ slots) cs [] caller one is all s =
    let new = subst (λ (c : Caller). IsNewCaller 2 1 0 (slot ∷ slots) c) (ap (λ (l : List Caller). slice_index_or l 0 caller) is)
    (all.each 0 caller (omega arith)) in
    let seat = new.seats.1 0 slot s (omega (arith, new.seats.0)) in
    omega (arith, ap (λ (v : View). length v.made) seat.view)
none_posted (slot ∷ slots) cs (c ∷ front) caller one is all s = absurd (omega (arith, ap length is, all.count, length-append front (caller ∷ [])))

pub returns-in-Some : goal.returns-in-Some
returns-in-Some g c = λ s.
    none_posted c.in_ok-live.live.slots.items c.in_ok-live.callers.items c.pop.new.self.items c.in-Some.caller c.in_ok-live.ensures.calls.0
    c.in-Some.ensures.items c.in_ok-live.ensures.callers s
