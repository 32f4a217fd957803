-- For crates above: the numbers of a new farm's first and last callers (`first_numbers`, `last_numbers`).
-- The seats of a new farm.
use Rattle.std.proofs.Common.{◌≡◌, ◌≢◌, ℕ, zero, suc, ◌+◌, ◌-◌, ◌<◌, ◌≤◌, true, false, ◌==◌, Option, List, [], ◌∷◌, ◌++◌, length, take, drop, set, get_or}
use Rattle.std.proofs.Common.{get_or-set_same, get_or-set_other, refl, sym, ap, ◌∙◌, subst, ⊎_elim, arith, length-append}
use Rattle.std.proofs.Math.ListN.{length-set}
use Rattle.std.proofs.Math.Seq.{get_or-append_seam}
use Rattle.std.proofs.lemmas.Bool.{cases_eq, cases_lt}
use Rattle.std.proofs.lemmas.List.{get_or_append_left}
use Rattle.std.proofs.lemmas.Grind.{common_steps}
use Rattle.trau_num.proofs.Lists.{each_snoc, same_default}
use Rattle.crossbeam_queue.specs.declared.array_queue.Doing.{Doing}
use Rattle.crossbeam_queue.specs.declared.array_queue.Slotted.{Slotted}
use Rattle.farm_live.specs.declared.post.BookOf.{BookOf}
use Rattle.farm_live.specs.declared.slot.Token.{Token}
use Rattle.farm_live.specs.declared.slot.View.{View}
use Rattle.farm_live.specs.declared.live.Seat.{Seat}
use Rattle.farm_live.specs.declared.live.Caller.{Caller}
use Rattle.farm_live.specs.Book.{of_caller}
use Rattle.farm_live.specs.Slot.{times, is_at, bit, ascending, all_callers}
use Rattle.farm_live.specs.Live.{book_at, AreSeats, IsNewSeat, AreNew, IsNewRow, numbers_of, IsNewCaller}

-- ---- the numbers

-- numbers in order, without the first ones
drop_ascending : (i k n m j : ℕ) → m ≡ i + n → j ≡ i + k → drop i (ascending k m) ≡ ascending j n
drop_ascending zero k n m j p q = let e : m ≡ n = omega arith in let f : k ≡ j = omega arith in ap (ascending k) e ∙ ap (λ x. ascending x n) f
drop_ascending (suc i) k n zero j p q = absurd (omega arith)
drop_ascending (suc i) k n (suc m) j p q = drop_ascending i (suc k) n m j (omega arith) (omega arith)

-- the number i is the first that is left
left_from : (i : ℕ) → i < 64 → (n : ℕ) × (drop i all_callers ≡ i ∷ ascending (suc i) n)
unfolding all_callers
left_from i h = (63 - i, drop_ascending i 0 (suc (63 - i)) 64 i (omega arith) (omega arith))

itself : (i : ℕ) → is_at i i ≡ 1
itself i = let e : (i == i) ≡ true = grind (arith, common_steps) in ap bit e

-- so it stands among the first, and among those that are left
pub first_is : (i : ℕ) → i < 64 → 0 < times i (take 1 (drop i all_callers))
first_is i h = let l = left_from i h in let one = itself i in subst (λ (ds : List ℕ). 0 < times i (take 1 ds)) (sym l.1) (omega arith)

pub left_is : (i : ℕ) → i < 64 → 0 < times i (drop i all_callers)
left_is i h = let l = left_from i h in let one = itself i in subst (λ (ds : List ℕ). 0 < times i ds) (sym l.1) (omega arith)

-- one more is dropped
drop_more : {X : Type 0} (i : ℕ) (xs : List X) → drop 1 (drop i xs) ≡ drop (suc i) xs
drop_more zero [] = refl
drop_more zero (x ∷ xs) = refl
drop_more (suc i) [] = refl
drop_more (suc i) (x ∷ xs) = drop_more i xs

pub drop_next : (i : ℕ) → drop 1 (drop i all_callers) ≡ drop (i + 1) all_callers
drop_next i = let e : suc i ≡ i + 1 = omega arith in drop_more i all_callers ∙ ap (λ n. drop n all_callers) e

-- ---- lists

-- an index below k + 1 that is not k is below k
not_last : (j k : ℕ) → j < k + 1 → j ≢ k → j < k
not_last j k h ne = ⊎_elim (λ (lt : j < k). lt) (λ (le : k ≤ j). absurd (ne (let e : j ≡ k = omega arith in e))) (cases_lt j k)

-- whose numbers a caller has
pub first_numbers : (callers i : ℕ) → i + 1 < callers → take 1 (drop i all_callers) ≡ numbers_of callers i
first_numbers callers i h = let e : (i + 1 == callers) ≡ false = grind (arith, common_steps) in rw e refl

-- the last caller has all numbers that are left
pub last_numbers : (callers i : ℕ) → i + 1 ≡ callers → drop i all_callers ≡ numbers_of callers i
last_numbers callers i h = let e : (i + 1 == callers) ≡ true = grind (arith, common_steps) in rw e refl

abbrev pub Line : Type 0 → Type 0 → Type 0
Line Q A = Slotted (Option Token) (Doing Token View) Q A

module _ {Q A : Type 0} where
  -- ---- opening

  -- no seats, and one seat more
  pub none_new : (cs : List ℕ) (inbox : ℕ) (slots : List (Line Q A)) → AreNew cs inbox slots []
  none_new cs inbox slots k slot s h = absurd (omega arith)

  pub one_new : (cs : List ℕ) (inbox : ℕ) (slots : List (Line Q A)) (seats : List Seat) (s : Seat) → AreNew cs inbox slots seats →
      ((slot : Line Q A) → IsNewSeat cs (book_at inbox (length seats)) (get_or slots (length seats) slot) s) → AreNew cs inbox slots (seats ++ s ∷ [])
  one_new cs inbox slots seats s all new k slot d h =
      each_snoc (λ (k : ℕ) (x : Seat). IsNewSeat cs (book_at inbox k) (get_or slots k slot) x) seats s (λ i d lt. all i slot d lt) (new slot) k d h

  slot_more : (cs : List ℕ) (inbox : ℕ) (slots : List (Line Q A)) (slot : Line Q A) (seats : List Seat) → length seats ≡ length slots →
      AreNew cs inbox slots seats → AreNew cs inbox (slots ++ slot ∷ []) seats
  slot_more cs inbox slots slot seats len all k d s h =
      subst (λ (x : Line Q A). IsNewSeat cs (book_at inbox k) x (get_or seats k s)) (sym (get_or_append_left slots (slot ∷ []) d k (omega arith))) (all k d s h)

  -- a new row with one call more
  pub row_more : (cs : List ℕ) (inbox : ℕ) (slots : List (Line Q A)) (seats : List Seat) (slot : Line Q A) (s : Seat) → IsNewRow cs inbox slots seats →
      IsNewSeat cs (book_at inbox (length slots)) slot s →
      IsNewRow cs inbox (slots ++ slot ∷ []) (seats ++ s ∷ [])
  row_more cs inbox slots seats slot s row new =
      let long = length-append slots (slot ∷ []) in
      let long' = length-append seats (s ∷ []) in
      let same : length slots ≡ length seats = sym row.0 in
      let at : (d : Line Q A) → get_or (slots ++ slot ∷ []) (length seats) d ≡ slot = λ d. ap (λ (n : ℕ). get_or (slots ++ slot ∷ []) n d) row.0
      ∙ get_or-append_seam slots slot [] d in (
        omega (arith, row.0),
        one_new cs inbox (slots ++ slot ∷ []) seats s (slot_more cs inbox slots slot seats row.0 row.1)
            (λ d. subst (λ (x : Line Q A). IsNewSeat cs (book_at inbox (length seats)) x s) (sym (at d))
            (subst (λ (n : ℕ). IsNewSeat cs (book_at inbox n) slot s) same new)),
      )

  -- ---- a row of first numbers

  -- the first n seats have given one number away
  pub record AreCut (cs : List ℕ) (inbox : ℕ) (slots : List (Line Q A)) (n : ℕ) (seats : List Seat) : Type 0 where
    pub one_each : length seats ≡ length slots
    pub done : (k : ℕ) (slot : Line Q A) (s : Seat) → k < n → k < length seats → IsNewSeat (drop 1 cs) (book_at inbox k) (get_or slots k slot)
        (get_or seats k s)
    pub left : (k : ℕ) (slot : Line Q A) (s : Seat) → n ≤ k → k < length seats → IsNewSeat cs (book_at inbox k) (get_or slots k slot) (get_or seats k s)

  -- before the first call no seat is cut
  pub none_cut : (cs : List ℕ) (inbox : ℕ) (slots : List (Line Q A)) (seats : List Seat) → IsNewRow cs inbox slots seats → AreCut cs inbox slots 0 seats
  none_cut cs inbox slots seats all = record { one_each = all.0; done = λ k slot s h. absurd (omega arith); left = λ k slot s h lt. all.1 k slot s lt }

  -- at the end all seats are cut
  pub all_cut : (cs : List ℕ) (inbox : ℕ) (slots : List (Line Q A)) (n : ℕ) (seats : List Seat) → AreCut cs inbox slots n seats → length slots ≤ n →
      IsNewRow (drop 1 cs) inbox slots seats
  all_cut cs inbox slots n seats cut h = (cut.one_each, λ k slot s lt. cut.done k slot s (omega (arith, cut.one_each)) lt)

  -- one seat more is cut
  pub one_cut : (cs : List ℕ) (inbox : ℕ) (slots : List (Line Q A)) (k : ℕ) (seats : List Seat) (t : Seat) → AreCut cs inbox slots k seats → k < length slots →
      ((slot : Line Q A) → IsNewSeat (drop 1 cs) (book_at inbox k) (get_or slots k slot) t) → AreCut cs inbox slots (k + 1) (set seats k t)
  one_cut cs inbox slots k seats t cut there new = let long = length-set seats k t in record {
    one_each = long ∙ cut.one_each;
    done = λ j slot s h lt. ⊎_elim
        (λ (e : j ≡ k). subst (λ (i : ℕ). IsNewSeat (drop 1 cs) (book_at inbox i) (get_or slots i slot) (get_or (set seats k t) i s)) (sym e)
        (subst (IsNewSeat (drop 1 cs) (book_at inbox k) (get_or slots k slot)) (sym (get_or-set_same seats k t s (omega (arith, cut.one_each)))) (new slot)))
        (λ (ne : j ≢ k). subst (IsNewSeat (drop 1 cs) (book_at inbox j) (get_or slots j slot)) (sym (get_or-set_other seats k j t s ne))
        (cut.done j slot s (not_last j k h ne) (omega arith)))
        (cases_eq j k);
    left = λ j slot s h lt. let ne : j ≢ k = λ e. absurd (omega arith) in
        subst (IsNewSeat cs (book_at inbox j) (get_or slots j slot)) (sym (get_or-set_other seats k j t s ne)) (cut.left j slot s (omega arith) (omega arith));
  }

  -- ---- the callers

  -- new seats are those of the caller
  pub seats_are : (inbox caller : ℕ) (cs : List ℕ) (slots : List (Line Q A)) (seats : List Seat) → 0 < times caller cs → IsNewRow cs inbox slots seats →
      AreSeats inbox slots caller seats
  seats_are inbox caller cs slots seats mine row = record {
    one_each = row.0;
    each = λ k slot s h.
        let new = row.1 k slot s (omega (arith, row.0)) in
        let v = new.view in record {
          pass = new.pass;
          capacity = new.capacity;
          free = ap (λ (u : View). u.holds) v;
          mine = subst (λ (u : View). 0 < times caller u.callers) (sym v) mine;
          is_of = ap (λ (u : View). u.is_of) v;
          posted = new.posted ∙ sym (ap (λ (u : View). length (of_caller caller u.made)) v);
        };
  }

  -- so the caller is a new one
  pub caller_is : (inbox callers i : ℕ) (slots : List (Line Q A)) (c : Caller) (cs : List ℕ) → c.number ≡ i → cs ≡ numbers_of callers i → 0 < times i cs →
      IsNewRow cs inbox slots c.seats.items →
      IsNewCaller inbox callers i slots c
  caller_is inbox callers i slots c cs number is mine row = record {
    number = number;
    seats = subst (λ (ds : List ℕ). IsNewRow ds inbox slots c.seats.items) is row;
    seated = subst (λ (n : ℕ). AreSeats inbox slots n c.seats.items) (sym number) (seats_are inbox i cs slots c.seats.items mine row);
  }

  -- ---- as first_row meets them

  -- the seat at an index is new
  pub seat_at : (cs : List ℕ) (inbox : ℕ) (slots : List (Line Q A)) (k : ℕ) (seats : List Seat) (slot : Line Q A) (s : Seat) → AreCut cs inbox slots k seats →
      k < length seats → slot ≡ get_or slots k slot →
      IsNewSeat cs (book_at inbox k) slot (get_or seats k s)
  seat_at cs inbox slots k seats slot s cut there is =
      subst (λ (x : Line Q A). IsNewSeat cs (book_at inbox k) x (get_or seats k s)) (sym is) (cut.left k slot s (omega arith) there)

  -- whatever stands past the lists
  pub at_any : (cs : List ℕ) (book : BookOf) (slots : List (Line Q A)) (k : ℕ) (slot : Line Q A) (s : Seat) → slot ≡ get_or slots k slot → k < length slots →
      IsNewSeat cs book slot s →
      (d : Line Q A) → IsNewSeat cs book (get_or slots k d) s
  at_any cs book slots k slot s is there new d = subst (λ (x : Line Q A). IsNewSeat cs book x s) (is ∙ same_default slots k slot d there) new
