-- A mark that is read line by line.
use Rattle.std.proofs.Common.{◌≡◌, ℕ, suc, ◌+◌, ◌-◌, ◌<◌, ◌≤◌, inl, inr, List, [], ◌∷◌, ◌++◌, length, take, refl, sym, ◌∙◌, ap, subst, arith, append_assoc}
use Rattle.std.proofs.Common.{append-nil}
use Rattle.std.specs.List.{All, flat_map, concat}
use Rattle.std.proofs.lemmas.List.{length-append}
use Rattle.std.proofs.lemmas.List.Elements.{All-nil, All-push, All-get_or}
use Rattle.std.proofs.lemmas.List.Quantifiers.{all_pairs_push}
use Rattle.std.proofs.lemmas.Grind.{flat_map-append}
use Rattle.std.proofs.Math.Seq.{get_or-append_seam}
use Rattle.farm_checkpoint.specs.declared.mark.MarkCall.{MarkCall}
use Rattle.farm_checkpoint.specs.Marks.{MarkView, NumbersRise, IsOpenAtMark, HasSums}
use Rattle.farm_checkpoint.specs.Text.{save_line, call_text, orders_line, mark_lines, mark_text, HasLines, IsFirstBad, IsRead}
use Rattle.farm_checkpoint.specs.Reading.{AreCallLines, RisesAbove, IsBadCall}
use Rattle.farm_checkpoint.proofs.Fields.{Fits}
use Rattle.farm_checkpoint.proofs.Rising.{front_below}
use Rattle.farm_checkpoint.proofs.Lines.{lines_of, Next}
use Rattle.farm_checkpoint.proofs.Fronts.{all_fit, parts, next_of, lines_count}

-- these calls were read, this text is left, and the next call's number is above this one
pub record HasCalls (period : ℕ) (text : List ℕ) (calls : List MarkCall) (rest : List ℕ) (last : ℕ) : Type 0 where
  pub so_far : AreCallLines period text calls rest
  pub low : last ≤ 4096
  pub below : All (λ e. e.call ≤ last) calls
  pub least : (c : MarkCall) → 1 ≤ c.call → RisesAbove calls c → last < c.call
  pub size : length calls + length rest ≤ length text

pub push_call : (period : ℕ) (text : List ℕ) (calls : List MarkCall) (rest after : List ℕ) (last : ℕ) (c : MarkCall) →
    HasCalls period text calls rest last → IsOpenAtMark period c → HasSums c → last < c.call →
    rest ≡ call_text c ++ after → length after < length rest → HasCalls period text (calls ++ c ∷ []) after c.call
push_call period text calls rest after last c has is_open sums above line shorter = record {
  so_far = record {
    are_open = record {
      each = All-push (IsOpenAtMark period) calls c has.so_far.are_open.each is_open;
      rising = all_pairs_push (λ a b. a.call < b.call) calls c has.so_far.are_open.rising
          (λ k d within. omega (arith, above, All-get_or (λ e. e.call ≤ last) calls k d within has.below));
    };
    sums = All-push HasSums calls c has.so_far.sums sums;
    whole = has.so_far.whole ∙ ap (λ t. flat_map call_text calls ++ t) line ∙ sym (append_assoc (flat_map call_text calls) (call_text c) after)
        ∙ ap (λ t. t ++ after) pushed;
  };
  low = is_open.number.1;
  below = All-push (λ e. e.call ≤ c.call) calls c (weaker c.call (omega (arith, above))) (omega arith);
  least = λ d least follows. rw (get_or-append_seam calls c [] c) at
      (All-get_or (λ e. e.call < d.call) (calls ++ c ∷ []) (length calls) c (omega (arith, length-append calls (c ∷ []))) follows);
  size = omega (arith, has.size, shorter, length-append calls (c ∷ []));
}
  where
    weaker : (n : ℕ) → last ≤ n → All (λ e. e.call ≤ n) calls
    weaker n low = λ i d within. omega (arith, low, has.below i d within)

    pushed : flat_map call_text calls ++ call_text c ≡ flat_map call_text (calls ++ c ∷ [])
    pushed = ap (λ t. flat_map call_text calls ++ t) (sym (append-nil (call_text c))) ∙ sym (flat_map-append call_text calls (c ∷ []))

-- a call's line isn't empty
pub shorter : (c : MarkCall) (rest after : List ℕ) → rest ≡ call_text c ++ after → length after < length rest
unfolding call_text
shorter c rest after line = let e = ap length line in let size = length-append (call_text c) after in omega (arith, e, size)

-- nothing that may follow is left
pub stuck : (period : ℕ) (text : List ℕ) (calls : List MarkCall) (rest : List ℕ) (last n : ℕ) → HasCalls period text calls rest last →
    ((c : MarkCall) (after : List ℕ) → IsOpenAtMark period c → HasSums c → last < c.call → rest ≡ call_text c ++ after → ⊥) →
    ((after : List ℕ) → rest ≡ orders_line ++ after → ⊥) → n ≡ length calls + 2 → IsBadCall period text n
stuck period text calls rest last n has no_call no_orders number = record {
  calls = calls;
  rest = rest;
  good = has.so_far;
  stuck = record {
    no_call = λ c after is_open sums follows line. no_call c after is_open sums (has.least c is_open.number.0 follows) line;
    no_orders = no_orders;
  };
  number = number;
}

lines_before : (calls : List MarkCall) → concat (take (length calls) (lines_of calls)) ≡ flat_map call_text calls
lines_before [] = refl
lines_before (c ∷ calls) = ap (λ t. call_text c ++ t) (lines_before calls)

at_seam : (P : MarkCall → Type 0) (front : List MarkCall) (y : MarkCall) (back : List MarkCall) → All P (front ++ y ∷ back) → P y
at_seam P front y back all = subst P (get_or-append_seam front y back y)
    (All-get_or P (front ++ y ∷ back) (length front) y (omega (arith, length-append front (y ∷ back))) all)

-- a bad line behind a good first one is a bad line of the whole text
pub bad_call : (period n : ℕ) (text behind : List ℕ) → 1 ≤ period → period ≤ 4294967295 → text ≡ save_line period ++ behind → IsBadCall period behind n →
    IsFirstBad text n
bad_call period n text behind low high first is = record {
  at_least = omega (arith, is.number);
  before = before;
  good = record {
    is = record { at_least = low; at_most = high; are_open = is.good.are_open; sums = is.good.sums };
    many = omega (arith, is.number, lines_count before);
    rest = is.rest;
    whole = front ∙ ap (λ t. t ++ is.rest) (sym good_lines);
  };
  more = omega (arith, is.number, lines_count before);
  bad = λ mark has.
      let next = next_of text is.rest period is.calls mark n low high fit whole (omega (arith, is.number)) has in
      refute mark has next.0 next.1;
}
  where
    before : MarkView
    before = record { period = period; calls = is.calls }

    fit : All Fits is.calls
    fit = all_fit period is.calls high is.good.are_open.each is.good.sums

    whole : text ≡ save_line period ++ (flat_map call_text is.calls ++ is.rest)
    whole = first ∙ ap (λ t. save_line period ++ t) is.good.whole

    front : text ≡ (save_line period ++ flat_map call_text is.calls) ++ is.rest
    front = whole ∙ sym (append_assoc (save_line period) (flat_map call_text is.calls) is.rest)

    good_lines : concat (take (n - 1) (mark_lines before)) ≡ save_line period ++ flat_map call_text is.calls
    good_lines = let size : n - 1 ≡ suc (length is.calls) = omega (arith, is.number) in rw size (ap (λ t. save_line period ++ t) (lines_before is.calls))

    one_follows : (mark : MarkView) → HasLines text mark n → period ≡ mark.period → (y : MarkCall) (zs : List MarkCall) (after : List ℕ) →
        mark.calls ≡ is.calls ++ y ∷ zs → is.rest ≡ call_text y ++ after → ⊥
    one_follows mark has same y zs after ahead line =
        let are_open = subst (λ ys. All (IsOpenAtMark mark.period) ys) ahead has.is.are_open.each in
        let sums = subst (λ ys. All HasSums ys) ahead has.is.sums in
        let rising = subst NumbersRise ahead has.is.are_open.rising in
        is.stuck.no_call y after (subst (λ p. IsOpenAtMark p y) (sym same) (at_seam (IsOpenAtMark mark.period) is.calls y zs are_open))
        (at_seam HasSums is.calls y zs sums) (front_below is.calls y zs rising) line

    refute : (mark : MarkView) → HasLines text mark n → period ≡ mark.period → Next is.calls mark.calls is.rest → ⊥
    refute mark has same next =
        elim next.is [
          | inl (all, last) ↦ is.stuck.no_orders next.after last
          | inr (y, zs, ahead, line) ↦ one_follows mark has same y zs next.after ahead line
        ]

abbrev no_mark : MarkView
no_mark = record { period = 1; calls = [] }

-- the first line is a bad one where it is no period's
pub bad_first : (text : List ℕ) → ((period : ℕ) (rest : List ℕ) → 1 ≤ period → period ≤ 4294967295 → text ≡ save_line period ++ rest → ⊥) → IsFirstBad text 1
bad_first text none = record {
  at_least = omega arith;
  before = no_mark;
  good = record {
    is = record {
      at_least = omega arith;
      at_most = omega arith;
      are_open = record { each = All-nil (IsOpenAtMark 1); rising = λ i j d less within. absurd (omega (arith, within)) };
      sums = All-nil HasSums;
    };
    many = omega arith;
    rest = text;
    whole = refl;
  };
  more = omega (arith, lines_count no_mark);
  bad = λ mark has. none mark.period has.rest has.is.at_least has.is.at_most (has.whole ∙ ap (λ t. t ++ has.rest) (append-nil (save_line mark.period)));
}

-- a mark that was read whole
pub read_whole : (text behind orders : List ℕ) (period : ℕ) (calls : List MarkCall) (octets : ℕ) → 1 ≤ period → period ≤ 4294967295 →
    text ≡ save_line period ++ behind →
    AreCallLines period behind calls (orders_line ++ orders) → octets ≡ length text - length orders →
    IsRead text (record { period = period; calls = calls }) octets
read_whole text behind orders period calls octets low high first are size = record {
  is = record { at_least = low; at_most = high; are_open = are.are_open; sums = are.sums };
  orders = orders;
  whole = whole;
  place = let e = ap length whole in omega (arith, size, e, length-append (mark_text mark) orders);
}
  where
    mark : MarkView
    mark = record { period = period; calls = calls }

    whole : text ≡ mark_text mark ++ orders
    whole = first ∙ ap (λ t. save_line period ++ t) are.whole ∙ sym (parts mark orders)
