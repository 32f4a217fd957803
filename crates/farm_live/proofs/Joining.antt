-- What callers know, put together.
use Rattle.std.proofs.Common.{◌≡◌, ◌≢◌, ℕ, zero, suc, ◌+◌, ◌<◌, ◌≤◌, List, [], ◌∷◌, ◌++◌, length, map, take, drop, set, get_or, get_or-set_same}
use Rattle.std.proofs.Common.{get_or-set_other, refl, sym, ap, ◌∙◌, subst, ⊎_elim, append_assoc, append-nil, length-append, All, reverse, arith}
use Rattle.std.specs.List.{flat_map}
use Rattle.std.proofs.Math.ListN.{length-set}
use Rattle.std.proofs.Math.Seq.{get_or-append_seam}
use Rattle.std.proofs.lemmas.Bool.{cases_eq, cases_lt}
use Rattle.std.proofs.lemmas.List.{reverse-append, get_or_append_left}
use Rattle.std.proofs.lemmas.Grind.{flat_map-append}
use Rattle.trau_num.proofs.Lists.{same_default}
use Rattle.crossbeam_queue.specs.Passes.{IsPassOf}
use Rattle.farm_live.specs.declared.post.BookOf.{BookOf}
use Rattle.farm_live.specs.declared.slot.View.{View}
use Rattle.farm_live.specs.declared.live.Seat.{Seat}
use Rattle.farm_live.specs.declared.live.Caller.{Caller}
use Rattle.farm_live.specs.Slot.{both_of, times, is_at}
use Rattle.farm_live.specs.Book.{IsLegal}
use Rattle.farm_live.specs.declared.live.Closed.{Closed}
use Rattle.farm_live.specs.Live.{view_of, book_at, IsSeat, IsSeated}
use Rattle.farm_live.specs.Closing.{view_at, views_at, HasAll, IsJoined, AreJoined, AreHalfJoined, AreAllSeated, IsClosedAs, IsClosedBy}
use Rattle.farm_live.proofs.NewFarm.{Line}
use Rattle.trau_num.proofs.Weights.{weigh-append}

-- what one view more has
one_more : {X : Type 0} (f : View → List X) (vs : List View) (v u : View) → f v ≡ flat_map f vs → f v ++ f u ≡ flat_map f (vs ++ u ∷ [])
one_more f vs v u e = ap (λ l. l ++ f u) e ∙ ap (λ l. flat_map f vs ++ l) (sym (append-nil (f u))) ∙ sym (flat_map-append f vs (u ∷ []))

-- a view that takes in another has what it had and what that one has
pub has_both : (vs : List View) (v u : View) → HasAll vs v → HasAll (vs ++ u ∷ []) (both_of v u)
has_both vs v u all = record {
  made = one_more (λ (w : View). w.made) vs v u all.made;
  seen = one_more (λ (w : View). w.seen) vs v u all.seen;
  callers = one_more (λ (w : View). w.callers) vs v u all.callers;
}

-- the view of a caller at the call with this index
at_place : (xs : List Seat) (k : ℕ) (d : Seat) → k < length xs → map view_of (take 1 (drop k xs)) ≡ view_of (get_or xs k d) ∷ []
at_place [] k d h = absurd (omega arith)
at_place (x ∷ xs) zero d h = refl
at_place (x ∷ xs) (suc k) d h = at_place xs k d (omega arith)

-- an index that is not k and not before it is behind it
behind : (j k : ℕ) → k ≤ j → j ≢ k → k + 1 ≤ j
behind j k h ne = ⊎_elim (λ (lt : k < j). omega arith) (λ (le : j ≤ k). absurd (ne (let e : j ≡ k = omega arith in e))) (cases_lt k j)

-- a list whose last item is taken away
pub popped : {X : Type 0} (new rest all : List X) (old : List X) (u : X) → all ≡ old ++ rest → old ≡ new ++ u ∷ [] → all ≡ new ++ u ∷ rest
popped new rest all old u e f = e ∙ ap (λ l. l ++ rest) f ∙ append_assoc new (u ∷ []) rest

-- the item that was taken away is the one at index k
pub last_is : (new rest all : List Seat) (u : Seat) (k : ℕ) → all ≡ new ++ u ∷ rest → k ≡ length new → u ≡ get_or all k u
last_is new rest all u k e f = sym (ap (λ xs. get_or xs k u) e ∙ ap (λ n. get_or (new ++ u ∷ rest) n u) f ∙ get_or-append_seam new u rest u)

pub last-lt : (new rest all : List Seat) (u : Seat) (k : ℕ) → all ≡ new ++ u ∷ rest → k ≡ length new → k < length all
last-lt new rest all u k e f = let l = ap length e in let m = length-append new (u ∷ rest) in omega arith

-- what holds of all items holds of that one
pub all_at : {X : Type 0} (P : X → Type 0) (new rest : List X) (u : X) → All P (new ++ u ∷ rest) → P u
all_at P new rest u a = subst P (get_or-append_seam new u rest u) (a (length new) u (let l = length-append new (u ∷ rest) in omega arith))

-- what holds of all items holds of a prefix
pub all_front : {X : Type 0} (P : X → Type 0) (xs ys : List X) → All P (xs ++ ys) → All P xs
all_front P xs ys a = λ k d h. subst P (get_or_append_left xs ys d k h) (a k d (let l = length-append xs ys in omega arith))

-- one caller more, the last one's first
pub turned_round : {X : Type 0} (cs rest : List X) (u : X) → (cs ++ reverse rest) ++ u ∷ [] ≡ cs ++ reverse (u ∷ rest)
turned_round cs rest u = append_assoc cs (reverse rest) (u ∷ []) ∙ ap (λ l. cs ++ l) (sym (reverse-append (u ∷ []) rest))

module _ {Q A : Type 0} where
  -- before the first seat none is joined
  pub none_joined : (inbox : ℕ) (slots : List (Line Q A)) (cs : List Caller) (c : Caller) (n : ℕ) (seats : List Seat) → AreJoined inbox slots cs seats →
      length slots ≤ n → AreHalfJoined inbox slots cs c n seats
  none_joined inbox slots cs c n seats all
      h = record { one_each = all.one_each; done = λ k slot s le lt. absurd (omega arith); left = λ k slot s lt there. all.each k slot s there }

  -- at the end all seats are joined
  pub all_joined : (inbox : ℕ) (slots : List (Line Q A)) (cs : List Caller) (c : Caller) (seats : List Seat) → AreHalfJoined inbox slots cs c 0 seats →
      AreJoined inbox slots (cs ++ c ∷ []) seats
  all_joined inbox slots cs c seats half = record {
    one_each = half.one_each;
    each = λ k slot s there.
        let e : views_at k cs ++ view_at k c ≡ views_at k (cs ++ c ∷ []) = ap (λ l. views_at k cs ++ l) (sym (append-nil (view_at k c)))
        ∙ sym (flat_map-append (view_at k) cs (c ∷ [])) in
        subst (λ (vs : List View). IsJoined (book_at inbox k) (get_or slots k slot) vs (get_or seats k s)) e (half.done k slot s (omega arith) there);
  }

  -- a seat that takes in another
  pub seat_joined : (book : BookOf) (slot : Line Q A) (vs : List View) (s t u : Seat) (caller : ℕ) → IsJoined book slot vs s → IsSeat book slot caller u →
      IsPassOf slot t.pass →
      view_of t ≡ both_of (view_of s) (view_of u) → IsJoined book slot (vs ++ view_of u ∷ []) t
  seat_joined book slot vs s t u caller joined seat pass is = record {
    pass = pass;
    capacity = joined.capacity;
    free = ap (λ (v : View). v.holds) is ∙ joined.free;
    is_of = ap (λ (v : View). v.is_of) is ∙ joined.is_of;
    all = subst (HasAll (vs ++ view_of u ∷ [])) (sym is) (has_both vs (view_of s) (view_of u) joined.all);
    some = (
      joined.some.0,
      subst (λ (v : View). 0 < times joined.some.0 v.callers) (sym is) (let more = weigh-append (is_at joined.some.0) (view_of s).callers
          (view_of u).callers in omega (arith, more, joined.some.1)),
    );
  }

  -- the seat with index k is joined, where those behind it are
  pub one_joined : (inbox : ℕ) (slots : List (Line Q A)) (cs : List Caller) (c : Caller) (k : ℕ) (seats : List Seat) (t : Seat) →
      AreHalfJoined inbox slots cs c (k + 1) seats → k < length slots →
      ((slot : Line Q A) → IsJoined (book_at inbox k) (get_or slots k slot) (views_at k cs ++ view_at k c) t) → AreHalfJoined inbox slots cs c k (set seats k t)
  one_joined inbox slots cs c k seats t half there new = record {
    one_each = length-set seats k t ∙ half.one_each;
    done = λ j slot s h lt. ⊎_elim
        (λ (e : j ≡ k). subst (λ (i : ℕ). IsJoined (book_at inbox i) (get_or slots i slot) (views_at i cs ++ view_at i c) (get_or (set seats k t) i s)) (sym e)
        (subst (IsJoined (book_at inbox k) (get_or slots k slot) (views_at k cs ++ view_at k c))
        (sym (get_or-set_same seats k t s (omega (arith, half.one_each)))) (new slot)))
        (λ (ne : j ≢ k). subst (IsJoined (book_at inbox j) (get_or slots j slot) (views_at j cs ++ view_at j c)) (sym (get_or-set_other seats k j t s ne))
        (half.done j slot s (behind j k h ne) lt))
        (cases_eq j k);
    left = λ j slot s h lt. let ne : j ≢ k = λ e. absurd (omega arith) in
        subst (IsJoined (book_at inbox j) (get_or slots j slot) (views_at j cs)) (sym (get_or-set_other seats k j t s ne))
        (half.left j slot s (omega arith) lt);
  }

  -- at an index whose seats are not joined yet: both are of the call
  pub ready_at : (inbox : ℕ) (slots : List (Line Q A)) (cs : List Caller) (c : Caller) (k : ℕ) (seats : List Seat) (slot : Line Q A) (s u : Seat) →
      AreHalfJoined inbox slots cs c (k + 1) seats →
      IsSeated inbox slots c → k < length slots → slot ≡ get_or slots k slot → s ≡ get_or seats k s → u ≡ get_or c.seats.items k u →
      IsJoined (book_at inbox k) slot (views_at k cs) s × IsSeat (book_at inbox k) slot c.number u
  ready_at inbox slots cs c k seats slot s u half seated there slot_is s_is u_is =
      let j = subst (λ (x : Line Q A). IsJoined (book_at inbox k) x (views_at k cs) (get_or seats k s)) (sym slot_is)
      (half.left k slot s (omega arith) there) in
      let o = subst (λ (x : Line Q A). IsSeat (book_at inbox k) x c.number (get_or c.seats.items k u)) (sym slot_is) (seated.each k slot u there) in
      (subst (IsJoined (book_at inbox k) slot (views_at k cs)) (sym s_is) j, subst (IsSeat (book_at inbox k) slot c.number) (sym u_is) o)

  -- as the loop meets it: the caller's seat `u` is the one with index k
  pub joined_at : (inbox : ℕ) (slots : List (Line Q A)) (cs : List Caller) (c : Caller) (k : ℕ) (seats : List Seat) (slot : Line Q A) (s t u : Seat) →
      AreHalfJoined inbox slots cs c (k + 1) seats →
      IsSeated inbox slots c → k < length slots → slot ≡ get_or slots k slot → s ≡ get_or seats k s → u ≡ get_or c.seats.items k u → IsPassOf slot t.pass →
      view_of t ≡ both_of (view_of s) (view_of u) →
      AreHalfJoined inbox slots cs c k (set seats k t)
  joined_at inbox slots cs c k seats slot s t u half seated there slot_is s_is u_is pass both =
      let r = ready_at inbox slots cs c k seats slot s u half seated there slot_is s_is u_is in
      let new = seat_joined (book_at inbox k) slot (views_at k cs) s t u c.number r.0 r.1 pass both in
      let here : view_of u ∷ [] ≡ view_at k c = ap (λ (x : Seat). view_of x ∷ []) u_is ∙ sym (at_place c.seats.items k u (omega (arith, seated.one_each))) in
      let new' = subst (λ (l : List View). IsJoined (book_at inbox k) slot (views_at k cs ++ l) t) here new in
      one_joined inbox slots cs c k seats t half there
      (λ d. subst (λ (x : Line Q A). IsJoined (book_at inbox k) x (views_at k cs ++ view_at k c) t) (slot_is ∙ same_default slots k slot d there) new')

  -- a caller by itself
  pub first_joined : (inbox : ℕ) (slots : List (Line Q A)) (c : Caller) → IsSeated inbox slots c → AreJoined inbox slots (c ∷ []) c.seats.items
  first_joined inbox slots c seated = record {
    one_each = seated.one_each;
    each = λ k slot s there.
        let seat = seated.each k slot s there in
        let v = view_of (get_or c.seats.items k s) in
        let is : v ∷ [] ≡ views_at k (c ∷ []) = sym (append-nil (view_at k c) ∙ at_place c.seats.items k s (omega (arith, seated.one_each))) in record {
          pass = seat.pass;
          capacity = seat.capacity;
          free = seat.free;
          is_of = seat.is_of;
          all = subst (λ (vs : List View). HasAll vs v) is
              (record { made = sym (append-nil v.made); seen = sym (append-nil v.seen); callers = sym (append-nil v.callers) });
          some = (c.number, seat.mine);
        };
  }

  -- the seats from the one with index n on aren't closed yet
  pub record AreLeft (inbox : ℕ) (slots : List (Line Q A)) (cs : List Caller) (n : ℕ) (seats : List Seat) : Type 0 where
    pub one_each : length seats ≡ length slots
    pub each : (k : ℕ) (slot : Line Q A) (s : Seat) → n ≤ k → k < length slots → IsJoined (book_at inbox k) (get_or slots k slot) (views_at k cs)
        (get_or seats k s)

  -- before the first call all are left to be closed
  pub all_left : (inbox : ℕ) (slots : List (Line Q A)) (cs : List Caller) (seats : List Seat) → AreJoined inbox slots cs seats → AreLeft inbox slots cs 0 seats
  all_left inbox slots cs seats joined = record { one_each = joined.one_each; each = λ k slot s h there. joined.each k slot s there }

  -- one call is closed
  pub fewer_left : (inbox : ℕ) (slots : List (Line Q A)) (cs : List Caller) (n : ℕ) (seats : List Seat) (t : Seat) → AreLeft inbox slots cs n seats →
      AreLeft inbox slots cs (n + 1) (set seats n t)
  fewer_left inbox slots cs n seats t left = record {
    one_each = length-set seats n t ∙ left.one_each;
    each = λ k slot s h there. let ne : k ≢ n = λ e. absurd (omega arith) in
        subst (IsJoined (book_at inbox k) (get_or slots k slot) (views_at k cs)) (sym (get_or-set_other seats n k t s ne))
        (left.each k slot s (omega arith) there);
  }

  -- a call that is left to be closed, and its seat
  pub left_at : (inbox : ℕ) (slots : List (Line Q A)) (cs : List Caller) (n : ℕ) (seats : List Seat) (slot : Line Q A) (s : Seat) →
      AreLeft inbox slots cs n seats → n < length slots →
      slot ≡ get_or slots n slot → s ≡ get_or seats n s → IsJoined (book_at inbox n) slot (views_at n cs) s
  left_at inbox slots cs n seats slot s left there slot_is s_is =
      let j = subst (λ (x : Line Q A). IsJoined (book_at inbox n) x (views_at n cs) (get_or seats n s)) (sym slot_is)
      (left.each n slot s (omega arith) there) in
      subst (IsJoined (book_at inbox n) slot (views_at n cs)) (sym s_is) j

  -- a call that is closed by what was joined has a legal history
  pub closed_by : (inbox : ℕ) (slot : Line Q A) (vs : List View) (s : Seat) (k : ℕ) (d : Closed) → IsJoined (book_at inbox k) slot vs s →
      IsClosedAs (k + 1) (view_of s) d → IsClosedBy (k + 1) vs d
  closed_by inbox slot vs s k d j closed =
      let b = closed.0 in
      let is : book_at inbox k ≡ b.is_of = sym j.is_of ∙ closed.1.is_of j.some.0 j.some.1 in
      let legal : IsLegal (k + 1) b.history = subst (λ (book : BookOf). IsLegal book.call b.history) (sym is) closed.1.legal in
      (view_of s, j.all, closed, subst (IsLegal (k + 1)) (sym closed.3) legal)

  -- what all callers know, the last one's first: `first` is the last caller after the others were joined to it
  pub all_known : (inbox : ℕ) (slots s1 s2 : List (Line Q A)) (callers others : List Caller) (last first : Caller) → callers ≡ others ++ last ∷ [] →
      s1 ≡ slots → s2 ≡ slots → AreAllSeated inbox slots callers →
      ((inbox : ℕ) (cs : List Caller) → AreJoined inbox s1 cs last.seats.items → AreAllSeated inbox s1 others →
      AreJoined inbox s1 (cs ++ reverse others) first.seats.items) →
      AreJoined inbox s2 (reverse callers) first.seats.items
  all_known inbox slots s1 s2 callers others last first e p q farm joins =
      let seated = subst (AreAllSeated inbox slots) e farm in
      let alone = subst (λ (xs : List (Line Q A)). AreJoined inbox xs (last ∷ []) last.seats.items) (sym p)
      (first_joined inbox slots last (all_at (IsSeated inbox slots) others [] last seated)) in
      let rest = subst (λ (xs : List (Line Q A)). AreAllSeated inbox xs others) (sym p) (all_front (IsSeated inbox slots) others (last ∷ []) seated) in
      let turn : (last ∷ []) ++ reverse others ≡ reverse callers = sym (ap reverse e ∙ reverse-append others (last ∷ [])) in
      subst (λ (xs : List (Line Q A)). AreJoined inbox xs (reverse callers) first.seats.items) (p ∙ sym q)
      (subst (λ (cs : List Caller). AreJoined inbox s1 cs first.seats.items) turn (joins inbox (last ∷ []) alone rest))
