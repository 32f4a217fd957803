-- A caller's seats, one of which changes.
use Rattle.std.proofs.Common.{◌≡◌, ℕ, ◌-◌, ◌<◌, Option, List, length, set, get_or, get_or-set_same, get_or-set_other, sym, ◌∙◌, subst}
use Rattle.std.proofs.Common.{ap, arith}
use Rattle.std.proofs.Math.ListN.{length-set}
use Rattle.trau_num.proofs.Lists.{each_set, same_default}
use Rattle.crossbeam_queue.specs.declared.array_queue.Doing.{Doing}
use Rattle.crossbeam_queue.specs.declared.array_queue.Slotted.{Slotted}
use Rattle.farm_live.specs.declared.post.BookOf.{BookOf}
use Rattle.farm_live.specs.declared.slot.Token.{Token}
use Rattle.farm_live.specs.declared.slot.View.{View}
use Rattle.farm_live.specs.declared.live.Seat.{Seat}
use Rattle.farm_live.specs.declared.live.Caller.{Caller}
use Rattle.farm_live.specs.Live.{view_of, book_at, IsSeat, AreSeats, Turns}

module _ {Q A : Type 0} (inbox : ℕ) (slots : List (Slotted (Option Token) (Doing Token View) Q A)) (caller : ℕ) where
  -- one seat of a caller changes
  pub seats_set : (seats : List Seat) (k : ℕ) (s : Seat) → AreSeats inbox slots caller seats → k < length slots →
      ((slot : Slotted (Option Token) (Doing Token View) Q A) → IsSeat (book_at inbox k) (get_or slots k slot) caller s) →
      AreSeats inbox slots caller (set seats k s)
  seats_set seats k s all there new = record {
    one_each = length-set seats k s ∙ all.one_each;
    each = λ j slot d h. each_set (λ i x. IsSeat (book_at inbox i) (get_or slots i slot) caller x) seats k s (omega (arith, all.one_each)) (new slot)
        (λ i e g. all.each i slot e (omega (arith, all.one_each))) j d (omega (arith, length-set seats k s, all.one_each));
  }

  -- the seat at a call
  pub seat_here : (seats : List Seat) (k : ℕ) (slot : Slotted (Option Token) (Doing Token View) Q A) (s : Seat) → AreSeats inbox slots caller seats →
      k < length slots → slot ≡ get_or slots k slot → s ≡ get_or seats k s → IsSeat (book_at inbox k) slot caller s
  seat_here seats k slot s all there slot_is seat_is =
      subst (λ (x : Slotted (Option Token) (Doing Token View) Q A). IsSeat (book_at inbox k) x caller s) (sym slot_is)
      (subst (λ (y : Seat). IsSeat (book_at inbox k) (get_or slots k slot) caller y) (sym seat_is) (all.each k slot s there))

  -- one function at the slot of call k
  pub seats_after : (seats : List Seat) (k : ℕ) (slot : Slotted (Option Token) (Doing Token View) Q A) (s t : Seat) → AreSeats inbox slots caller seats →
      k < length slots →
      slot ≡ get_or slots k slot → s ≡ get_or seats k s → ((book : BookOf) → IsSeat book slot caller s → IsSeat book slot caller t) →
      AreSeats inbox slots caller (set seats k t)
  seats_after seats k slot s t all there slot_is seat_is step =
      let new = step (book_at inbox k) (seat_here seats k slot s all there slot_is seat_is) in
      seats_set seats k t all there
      (λ d. subst (λ (x : Slotted (Option Token) (Doing Token View) Q A). IsSeat (book_at inbox k) x caller t) (slot_is ∙ same_default slots k slot d there)
      new)

-- what the caller knows after it
pub turns_at : (P : View → View → Type 0) (call : ℕ) (old new : Caller) (s t : Seat) → new.number ≡ old.number →
    new.seats.items ≡ set old.seats.items (call - 1) t → call - 1 < length old.seats.items → s ≡ get_or old.seats.items (call - 1) s →
    P (view_of s) (view_of t) → Turns P call old new
turns_at P call old new s t number seats there seat_is did =
    let k = call - 1 in record {
      number = number;
      this = λ d. subst (λ (x : Seat). P (view_of x) (view_of (get_or new.seats.items k d))) (seat_is ∙ same_default old.seats.items k s d there)
          (subst (λ (x : Seat). P (view_of s) (view_of x)) (sym (ap (λ xs. get_or xs k d) seats ∙ get_or-set_same old.seats.items k t d there)) did);
      others = λ j d ne. ap (λ xs. get_or xs j d) seats ∙ get_or-set_other old.seats.items k j t d ne;
    }
