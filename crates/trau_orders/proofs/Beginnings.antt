-- With which places the lines of orders begin: what is expected at a place is what an order may have there.
use Rattle.std.proofs.Common.{◌≡◌, ℕ, ◌≤◌, ◌==◌, if◌then◌else◌, Option, Some, None, List, [], ◌∷◌, ◌++◌, refl, sym, ◌∙◌, ap, subst, arith, inl, inr, slice_index}
use Rattle.std.specs.Prelude.{pos, codes, decimal, unsigned_abs, ◌↔◌}
use Rattle.std.proofs.lemmas.Int.{ints}
use Rattle.trau_alaw.specs.declared.Law.TheVariants.{A, Mu}
use Rattle.call_number.specs.CallNumber.{IsCallNumber}
use Rattle.trau_orders.specs.declared.expected.Expected.{Expected}
use Rattle.trau_orders.specs.declared.expected.Expected.TheVariants as expected
use Rattle.trau_orders.specs.declared.expected.Verb.{Verb}
use Rattle.trau_orders.specs.declared.expected.Verb.TheVariants as verb
use Rattle.trau_orders.specs.declared.order.DtxMode.TheVariants.{On}
use Rattle.trau_orders.specs.declared.order.What.{What}
use Rattle.trau_orders.specs.declared.order.What.TheVariants.{OpenCall, CloseCall, Bridge, Unbridge, Level, Dtx}
use Rattle.trau_orders.specs.Grammar.{mode_word, words_for, IsInRange}
use Rattle.trau_orders.specs.Reasons.{verb_word, argument_of, places_of, Admits, Begins}

abbrev pub Place : Type 0
Place = Option (List ℕ)

-- ---- what an order's line has at its places

abbrev pub verb_of : What → Verb
verb_of (OpenCall c law) = verb.Open
verb_of (CloseCall c) = verb.Close
verb_of (Bridge a b) = verb.Bridge
verb_of (Unbridge c) = verb.Unbridge
verb_of (Level c v) = verb.Level
verb_of (Dtx c m) = verb.Dtx

abbrev pub call_of : What → ℕ
call_of (OpenCall c law) = c
call_of (CloseCall c) = c
call_of (Bridge a b) = a
call_of (Unbridge c) = c
call_of (Level c v) = c
call_of (Dtx c m) = c

call_is : (w : What) → IsInRange w → IsCallNumber (call_of w)
call_is (OpenCall c law) in_range = in_range
call_is (CloseCall c) in_range = in_range
call_is (Bridge a b) in_range = in_range.0
call_is (Unbridge c) in_range = in_range
call_is (Level c v) in_range = in_range.0
call_is (Dtx c m) in_range = in_range

-- the places after the call
abbrev pub tail_of : What → List Place
tail_of (OpenCall c A) = None ∷ []
tail_of (OpenCall c Mu) = Some (codes "mulaw") ∷ None ∷ []
tail_of (CloseCall c) = None ∷ []
tail_of (Bridge a b) = Some (decimal b) ∷ None ∷ []
tail_of (Unbridge c) = None ∷ []
tail_of (Level c v) = Some (decimal (unsigned_abs v)) ∷ None ∷ []
tail_of (Dtx c m) = Some (mode_word m) ∷ None ∷ []

abbrev pub shape : ℕ → Verb → ℕ → List Place → List Place
shape n v c tail = Some (decimal n) ∷ Some (verb_word v) ∷ Some (decimal c) ∷ tail

pub places_shape : (n : ℕ) (w : What) → places_of (decimal n ∷ words_for w) ≡ shape n (verb_of w) (call_of w) (tail_of w)
places_shape n (OpenCall c A) = refl
places_shape n (OpenCall c Mu) = refl
places_shape n (CloseCall c) = refl
places_shape n (Bridge a b) = refl
places_shape n (Unbridge c) = refl
places_shape n (Level c v) = refl
places_shape n (Dtx c m) = refl

-- after an argument the line ends
abbrev pub after_argument : Place → List Place
after_argument None = []
after_argument (Some word) = None ∷ []

-- ---- what is admitted is ordered

pub record Ordered (v : Verb) (c : ℕ) (p : Place) : Type 0 where
  pub what : What
  pub in_range : IsInRange what
  pub verb_is : verb_of what ≡ v
  pub call_is : call_of what ≡ c
  pub tail_is : tail_of what ≡ p ∷ after_argument p

abbrev ends : Place → List Place
ends p = p ∷ after_argument p

pub ordered : (v : Verb) (c : ℕ) (p : Place) → IsCallNumber c → Admits (argument_of v) p → Ordered v c p
ordered verb.Open c p is (inl none) = record { what = OpenCall c A; in_range = is; verb_is = refl; call_is = refl; tail_is = sym (ap ends none) }
ordered verb.Open c p is (inr mu) = record { what = OpenCall c Mu; in_range = is; verb_is = refl; call_is = refl; tail_is = sym (ap ends mu) }
ordered verb.Close c p is none = record { what = CloseCall c; in_range = is; verb_is = refl; call_is = refl; tail_is = sym (ap ends none) }
ordered verb.Unbridge c p is none = record { what = Unbridge c; in_range = is; verb_is = refl; call_is = refl; tail_is = sym (ap ends none) }
ordered verb.Bridge c p is a = record { what = Bridge c a.0; in_range = (is, a.1); verb_is = refl; call_is = refl; tail_is = sym (ap ends a.2) }
ordered verb.Level c p is a = record {
  what = Level c (pos a.0);
  in_range = (is, omega (arith, ints), omega (arith, ints, a.1));
  verb_is = refl;
  call_is = refl;
  tail_is = sym (ap ends a.2);
}
ordered verb.Dtx c p is a = record { what = Dtx c a.0; in_range = is; verb_is = refl; call_is = refl; tail_is = sym (ap ends a.1) }

one_is : IsCallNumber 1
one_is = (omega arith, omega arith)

-- each verb has an argument, or the line's end
pub some_argument : (v : Verb) → (p : Place) × Admits (argument_of v) p
some_argument verb.Open = (None, inl refl)
some_argument verb.Close = (None, refl)
some_argument verb.Unbridge = (None, refl)
some_argument verb.Bridge = (Some (decimal 1), (1, one_is, refl))
some_argument verb.Level = (Some (decimal 0), (0, omega arith, refl))
some_argument verb.Dtx = (Some (mode_word On), (On, refl))

pub begins : (least n c : ℕ) (v : Verb) (p : Place) (first rest : List Place) → least ≤ n → n ≤ 4294967294 → Ordered v c p →
    first ++ rest ≡ shape n v c (ends p) → Begins least first
begins least n c v p first rest low high o is = record {
  order = record { stamp = n; what = o.what };
  low = low;
  high = high;
  in_range = o.in_range;
  rest = rest;
  whole = is ∙ sym (places_shape n o.what ∙ (rw (o.verb_is, o.call_is, o.tail_is) refl));
}

-- ---- what is ordered is admitted

pub opened : (least : ℕ) (first : List Place) (b : Begins least first) → first ++ b.rest ≡ shape b.order.stamp (verb_of b.order.what) (call_of b.order.what) (tail_of b.order.what)
opened least first b = b.whole ∙ places_shape b.order.stamp b.order.what

-- verbs differ by their first letters
verb_from : ℕ → Verb
verb_from letter =
    if letter == 111 then verb.Open
    else if letter == 99 then verb.Close
    else if letter == 98 then verb.Bridge
    else if letter == 117 then verb.Unbridge
    else if letter == 108 then verb.Level
    else verb.Dtx

verb_back : (v : Verb) → verb_from (slice_index (verb_word v) 0) ≡ v
unfolding verb_from
verb_back verb.Open = refl
verb_back verb.Close = refl
verb_back verb.Bridge = refl
verb_back verb.Unbridge = refl
verb_back verb.Level = refl
verb_back verb.Dtx = refl

pub one_verb : (v w : Verb) → verb_word v ≡ verb_word w → v ≡ w
one_verb v w e = sym (verb_back v) ∙ ap (λ word. verb_from (slice_index word 0)) e ∙ verb_back w

tail_admits : (w : What) → IsInRange w → (p : Place) (rest : List Place) → p ∷ rest ≡ tail_of w → Admits (argument_of (verb_of w)) p
tail_admits (OpenCall c A) in_range p rest e = inl cc
tail_admits (OpenCall c Mu) in_range p rest e = inr cc
tail_admits (CloseCall c) in_range p rest e = cc
tail_admits (Bridge a b) in_range p rest e = (b, in_range.1, cc)
tail_admits (Unbridge c) in_range p rest e = cc
tail_admits (Level c v) in_range p rest e = (unsigned_abs v, omega (arith, ints, in_range.1, in_range.2), cc)
tail_admits (Dtx c m) in_range p rest e = (m, cc)

-- an argument is followed by the line's end
tail_ends : (w : What) (word : List ℕ) (p : Place) (rest : List Place) → Some word ∷ p ∷ rest ≡ tail_of w → p ≡ None
tail_ends (OpenCall c A) word p rest e = cc
tail_ends (OpenCall c Mu) word p rest e = cc
tail_ends (CloseCall c) word p rest e = cc
tail_ends (Bridge a b) word p rest e = cc
tail_ends (Unbridge c) word p rest e = cc
tail_ends (Level c v) word p rest e = cc
tail_ends (Dtx c m) word p rest e = cc

-- ---- the five places

abbrev IsExpected : ℕ → List Place → Expected → Type 0
IsExpected least before what = (other : Place) → Admits what other ↔ Begins least (before ++ other ∷ [])

pub stamp_expected : (least : ℕ) → IsExpected least [] (expected.Stamp least)
stamp_expected least other = (
  (λ a. begins least a.0 1 verb.Close None (other ∷ []) (Some (codes "close") ∷ Some (decimal 1) ∷ None ∷ []) a.1 a.2 (ordered verb.Close 1 None one_is refl)
      (ap (λ p. p ∷ Some (codes "close") ∷ Some (decimal 1) ∷ None ∷ []) a.3)),
  (λ b. let e = opened least (other ∷ []) b in (b.order.stamp, b.low, b.high, cc)),
)

pub verb_expected : (least n : ℕ) → least ≤ n → n ≤ 4294967294 → IsExpected least (Some (decimal n) ∷ []) expected.Verb
verb_expected least n low high other = (
  (λ a. let p = some_argument a.0 in
      begins least n 1 a.0 p.0 (Some (decimal n) ∷ other ∷ []) (Some (decimal 1) ∷ ends p.0) low high (ordered a.0 1 p.0 one_is p.1)
      (ap (λ q. Some (decimal n) ∷ q ∷ Some (decimal 1) ∷ ends p.0) a.1)),
  (λ b. let e = opened least (Some (decimal n) ∷ other ∷ []) b in (verb_of b.order.what, cc)),
)

pub call_expected : (least n : ℕ) (v : Verb) → least ≤ n → n ≤ 4294967294 → IsExpected least (Some (decimal n) ∷ Some (verb_word v) ∷ []) expected.Call
call_expected least n v low high other = (
  (λ a. let p = some_argument v in
      begins least n a.0 v p.0 (Some (decimal n) ∷ Some (verb_word v) ∷ other ∷ []) (ends p.0) low high (ordered v a.0 p.0 a.1 p.1)
      (ap (λ q. Some (decimal n) ∷ Some (verb_word v) ∷ q ∷ ends p.0) a.2)),
  (λ b. let e = opened least (Some (decimal n) ∷ Some (verb_word v) ∷ other ∷ []) b in (call_of b.order.what, call_is b.order.what b.in_range, cc)),
)

pub argument_expected : (least n c : ℕ) (v : Verb) → least ≤ n → n ≤ 4294967294 → IsCallNumber c →
    IsExpected least (Some (decimal n) ∷ Some (verb_word v) ∷ Some (decimal c) ∷ []) (argument_of v)
argument_expected least n c v low high is other = (
  (λ a. begins least n c v other (shape n v c (other ∷ [])) (after_argument other) low high (ordered v c other is a) refl),
  (λ b. let e = opened least (shape n v c (other ∷ [])) b in
      let word : verb_word v ≡ verb_word (verb_of b.order.what) = cc in
      subst (λ w. Admits (argument_of w) other) (sym (one_verb v (verb_of b.order.what) word)) (tail_admits b.order.what b.in_range other b.rest cc)),
)

pub end_expected : (least n c : ℕ) (v : Verb) (word : List ℕ) → least ≤ n → n ≤ 4294967294 → IsCallNumber c → Admits (argument_of v) (Some word) →
    IsExpected least (Some (decimal n) ∷ Some (verb_word v) ∷ Some (decimal c) ∷ Some word ∷ []) expected.End
end_expected least n c v word low high is admitted other = (
  (λ none. begins least n c v (Some word) (shape n v c (Some word ∷ other ∷ [])) [] low high (ordered v c (Some word) is admitted)
      (ap (λ q. shape n v c (Some word ∷ q ∷ [])) none)),
  (λ b. let e = opened least (shape n v c (Some word ∷ other ∷ [])) b in tail_ends b.order.what word other b.rest cc),
)
