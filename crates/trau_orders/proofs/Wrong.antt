-- The first wrong place of a line.
use Rattle.std.proofs.Common.{◌≡◌, ℕ, ◌≤◌, Some, None, List, [], ◌∷◌, ◌++◌, refl, sym, ◌∙◌, ap, subst, arith, append_assoc, append-nil}
use Rattle.std.specs.Prelude.{decimal, ◌↔◌}
use Rattle.std.specs.List.{join_with_byte}
use Rattle.std.proofs.lemmas.List.Splits.{join_with_byte-slice_split}
use Rattle.call_number.specs.CallNumber.{IsCallNumber}
use Rattle.trau_orders.specs.declared.expected.Expected.{Expected}
use Rattle.trau_orders.specs.declared.expected.Expected.TheVariants as expected
use Rattle.trau_orders.specs.declared.expected.Verb.{Verb}
use Rattle.trau_orders.specs.declared.expected.Verb.TheVariants as verb
use Rattle.trau_orders.specs.declared.order.Order.{Order}
use Rattle.trau_orders.specs.Grammar.{words_for, words_of, order_line, IsLine}
use Rattle.trau_orders.specs.Reasons.{verb_word, argument_of, places_of, line_places, Admits, Begins, IsFirstWrong}
use Rattle.trau_orders.specs.Places.{Passes, IsAdmitted, IsRefused, IsLineFrom}
use Rattle.trau_orders.proofs.Words.{line_words, not_none}
use Rattle.trau_orders.proofs.Beginnings.{Place, shape, after_argument, ordered, some_argument, places_shape, stamp_expected, verb_expected, call_expected}
use Rattle.trau_orders.proofs.Beginnings.{argument_expected, end_expected}

shorter : (least : ℕ) (before : List Place) (p : Place) → Begins least (before ++ p ∷ []) → Begins least before
shorter least before p b = record {
  order = b.order;
  low = b.low;
  high = b.high;
  in_range = b.in_range;
  rest = p ∷ b.rest;
  whole = sym (append_assoc before (p ∷ []) b.rest) ∙ b.whole;
}

wrong : (least : ℕ) (line : List ℕ) (before after : List Place) (place some : Place) (what : Expected) → line_places line ≡ before ++ place ∷ after →
    ((other : Place) → Admits what other ↔ Begins least (before ++ other ∷ [])) → Admits what some → (Admits what place → ⊥) → IsFirstWrong least line place what
wrong least line before after place some what whole is admitted other = record {
  before = before;
  after = after;
  whole = whole;
  good = shorter least before some ((is some).0 admitted);
  bad = λ b. other ((is place).1 b);
  expected = is;
}

-- ---- the five places, each after those before it were passed

pub wrong_stamp : (least : ℕ) (line : List ℕ) (left : List Place) (place : Place) → least ≤ 4294967294 → left ≡ line_places line →
    IsRefused (expected.Stamp least) left place → IsFirstWrong least line place (expected.Stamp least)
wrong_stamp least line left place high all refused =
    wrong least line [] refused.after place (Some (decimal least)) (expected.Stamp least) (sym all ∙ refused.next) (stamp_expected least)
    (least, omega arith, high, refl) refused.other

-- the stamp and the verb were passed
pub record HasVerb (least : ℕ) (line : List ℕ) (n : ℕ) (v : Verb) (left : List Place) : Type 0 where
  pub low : least ≤ n
  pub high : n ≤ 4294967294
  pub whole : line_places line ≡ Some (decimal n) ∷ Some (verb_word v) ∷ left

pub wrong_verb : (least : ℕ) (line : List ℕ) (all left : List Place) (n : ℕ) (place : Place) → all ≡ line_places line → least ≤ n → n ≤ 4294967294 →
    all ≡ Some (decimal n) ∷ left → IsRefused expected.Verb left place → IsFirstWrong least line place expected.Verb
wrong_verb least line all left n place is low high stamp refused =
    wrong least line (Some (decimal n) ∷ []) refused.after place (Some (verb_word verb.Open)) expected.Verb
    (sym is ∙ stamp ∙ ap (λ ps. Some (decimal n) ∷ ps) refused.next) (verb_expected least n low high) (verb.Open, refl) refused.other

pub has_verb : (least : ℕ) (line : List ℕ) (all left more : List Place) (n : ℕ) (v : Verb) → all ≡ line_places line → least ≤ n → n ≤ 4294967294 →
    all ≡ Some (decimal n) ∷ left → left ≡ Some (verb_word v) ∷ more → HasVerb least line n v more
has_verb least line all left more n v is low high stamp word = record { low = low; high = high; whole = sym is ∙ stamp ∙ ap (λ ps. Some (decimal n) ∷ ps) word }

pub wrong_call : (least : ℕ) (line : List ℕ) (n : ℕ) (v : Verb) (left : List Place) (place : Place) → HasVerb least line n v left →
    IsRefused expected.Call left place → IsFirstWrong least line place expected.Call
wrong_call least line n v left place has refused =
    wrong least line (Some (decimal n) ∷ Some (verb_word v) ∷ []) refused.after place (Some (decimal 1)) expected.Call
    (has.whole ∙ ap (λ ps. Some (decimal n) ∷ Some (verb_word v) ∷ ps) refused.next) (call_expected least n v has.low has.high)
    (1, (omega arith, omega arith), refl) refused.other

-- the call was passed, too
pub record HasCall (least : ℕ) (line : List ℕ) (n : ℕ) (v : Verb) (left : List Place) : Type 0 where
  pub low : least ≤ n
  pub high : n ≤ 4294967294
  pub call : ℕ
  pub is : IsCallNumber call
  pub whole : line_places line ≡ shape n v call left

passed_word : (old new : List Place) (place : Place) (word : List ℕ) → place ≡ Some word → Passes old place new → old ≡ Some word ∷ new
passed_word old new None word e passes = cc
passed_word old new (Some w) word e passes = passes ∙ ap (λ p. p ∷ new) e

pub has_call : (least : ℕ) (line : List ℕ) (n : ℕ) (v : Verb) (left more : List Place) → HasVerb least line n v left → IsAdmitted expected.Call left more →
    HasCall least line n v more
has_call least line n v left more has admitted = record {
  low = has.low;
  high = has.high;
  call = admitted.admits.0;
  is = admitted.admits.1;
  whole = has.whole ∙ ap (λ ps. Some (decimal n) ∷ Some (verb_word v) ∷ ps) (passed_word left more admitted.place (decimal admitted.admits.0) admitted.admits.2 admitted.passes);
}

pub wrong_argument : (least : ℕ) (line : List ℕ) (n : ℕ) (v : Verb) (left : List Place) (place : Place) (what : Expected) → what ≡ argument_of v →
    HasCall least line n v left → IsRefused what left place → IsFirstWrong least line place what
wrong_argument least line n v left place what e has refused =
    let p = some_argument v in
    wrong least line (shape n v has.call []) refused.after place p.0 what (has.whole ∙ ap (shape n v has.call) refused.next)
    (subst (λ x. (other : Place) → Admits x other ↔ Begins least (shape n v has.call [] ++ other ∷ [])) (sym e)
    (argument_expected least n has.call v has.low has.high has.is)) (subst (λ x. Admits x p.0) (sym e) p.1) refused.other

end_refused : (old left : List Place) (argument place : Place) → Passes old argument left → IsRefused expected.End left place → (word : List ℕ) × (argument ≡ Some word)
end_refused old left None place passes refused = let e = sym passes.1 ∙ refused.next in absurd (refused.other cc)
end_refused old left (Some word) place passes refused = (word, refl)

pub wrong_end : (least : ℕ) (line : List ℕ) (n : ℕ) (v : Verb) (old left : List Place) (place : Place) (what : Expected) → what ≡ argument_of v →
    HasCall least line n v old → IsAdmitted what old left → IsRefused expected.End left place → IsFirstWrong least line place expected.End
wrong_end least line n v old left place what e has admitted refused =
    let word = end_refused old left admitted.place place admitted.passes refused in
    let is = subst (λ x. Admits x (Some word.0)) e (subst (Admits what) word.1 admitted.admits) in
    wrong least line (shape n v has.call (Some word.0 ∷ [])) refused.after place None expected.End
    (has.whole ∙ ap (shape n v has.call) (passed_word old left admitted.place word.0 word.1 admitted.passes ∙ ap (λ ps. Some word.0 ∷ ps) refused.next))
    (end_expected least n has.call v word.0 has.low has.high has.is is) refl refused.other

-- ---- the line of an order

same_words : (us ws : List (List ℕ)) → places_of us ≡ places_of ws → us ≡ ws
same_words [] [] e = refl
same_words [] (w ∷ ws) e = cc
same_words (u ∷ us) [] e = cc
same_words (u ∷ us) (w ∷ ws) e =
    let first : u ≡ w = cc in
    let others : places_of us ≡ places_of ws = cc in
    ap (λ x. x ∷ us) first ∙ ap (λ xs. w ∷ xs) (same_words us ws others)

some_line : (line : List ℕ) (w : List ℕ) (ws : List (List ℕ)) → line_places line ≡ places_of (w ∷ ws) → words_of line ≡ w ∷ ws
some_line [] w ws e = cc
some_line (b ∷ bs) w ws e = same_words (words_of (b ∷ bs)) (w ∷ ws) e

line_of : (line : List ℕ) (order : Order) → line_places line ≡ places_of (decimal order.stamp ∷ words_for order.what) → line ≡ order_line order
unfolding order_line
line_of line order e =
    sym (join_with_byte-slice_split 32 line) ∙ ap (join_with_byte 32) (some_line line (decimal order.stamp) (words_for order.what) e)

all_passed : (old left new : List Place) (place : Place) → Passes old place left → IsAdmitted expected.End left new → old ≡ place ∷ after_argument place
all_passed old left new None passes admitted = passes.0
all_passed old left new (Some word) passes admitted = passes ∙ ap (λ ps. Some word ∷ ps) (last left new admitted.place admitted.admits admitted.passes)
  where
    last : (left new : List Place) (p : Place) → p ≡ None → Passes left p new → left ≡ None ∷ []
    last left new None e passes = passes.0
    last left new (Some word) e passes = cc

pub whole_line : (least : ℕ) (line : List ℕ) (n : ℕ) (v : Verb) (old left new : List Place) (what : Expected) → what ≡ argument_of v →
    HasCall least line n v old → IsAdmitted what old left → IsAdmitted expected.End left new → IsLineFrom line least n
whole_line least line n v old left new what e has admitted last =
    let o = ordered v has.call admitted.place has.is (subst (λ x. Admits x admitted.place) e admitted.admits) in
    let order : Order = record { stamp = n; what = o.what } in
    let tail = all_passed old left new admitted.place admitted.passes last in
    record {
      order = order;
      is = record {
        stamp = has.high;
        in_range = o.in_range;
        spelled = line_of line order (has.whole ∙ ap (shape n v has.call) tail ∙ sym (places_shape n o.what ∙ (rw (o.verb_is, o.call_is, o.tail_is) refl)));
      };
      same = refl;
      low = has.low;
    }

-- ---- no order has the line

places_of_line : (line : List ℕ) (order : Order) → IsLine line order → line_places line ≡ places_of (decimal order.stamp ∷ words_for order.what)
places_of_line [] order is = let e = line_words [] order is in absurd (not_none order.what cc)
places_of_line (b ∷ bs) order is = ap places_of (line_words (b ∷ bs) order is)

longer : (least : ℕ) (before after : List Place) (p : Place) → Begins least (before ++ p ∷ after) → Begins least (before ++ p ∷ [])
longer least before after p b = record {
  order = b.order;
  low = b.low;
  high = b.high;
  in_range = b.in_range;
  rest = after ++ b.rest;
  whole = append_assoc before (p ∷ []) (after ++ b.rest) ∙ sym (append_assoc before (p ∷ after) b.rest) ∙ b.whole;
}

pub no_line : (least : ℕ) (line : List ℕ) (place : Place) (what : Expected) → IsFirstWrong least line place what → (order : Order) → IsLine line order →
    least ≤ order.stamp → ⊥
no_line least line place what is order spelled low =
    is.bad (longer least is.before is.after place (record {
      order = order;
      low = low;
      high = spelled.stamp;
      in_range = spelled.in_range;
      rest = [];
      whole = append-nil (is.before ++ place ∷ is.after) ∙ sym is.whole ∙ places_of_line line order spelled;
    }))
