-- At which periods the spans of a history start.
use Rattle.std.proofs.Common.{◌≡◌, refl, sym, ap, ◌∙◌, inl, inr, ℕ, ◌+◌, ◌<◌, ◌≤◌, Bool, true, false, ◌||◌, ◌&&◌, if◌then◌else◌, nat_le, nat_lt, Option, Some}
use Rattle.std.proofs.Common.{None, List, [], ◌∷◌, ◌++◌, length, reverse, arith, length-append}
use Rattle.std.specs.Prelude.{◌==◌, not, filter}
use Rattle.std.specs.List.{list_any}
use Rattle.std.proofs.lemmas.Bool.{cases_lt, lt-leb, le-leb, lt-ltb, le-ltb, eq-eqb, ne_eqb, and_right, or_right}
use Rattle.std.proofs.lemmas.List.Folds.{list_any-append}
use Rattle.call_leg.specs.Periods.{CallPeriod, bridges_begun}
use Rattle.call_spec.specs.Call.{Span, starts_at}
use Rattle.call_spec.specs.History.{new_span, go_on, spans_in_history}
use Rattle.call_spec.proofs.Stretched.{reverse-more}
use Rattle.call_spec.proofs.Ranges.{IsPeriod}

-- whether a bridge starts at a period whose number passes the test
abbrev any_start : (ℕ → Bool) → List CallPeriod → Bool
any_start test [] = false
any_start test (t ∷ past) = any_start test past || (t.starts && test (length past))

-- ---- spans start where bridges do

or_false : (b : Bool) → (b || false) ≡ b
or_false true = refl
or_false false = refl

any-newest : (test : ℕ → Bool) (span : Span) (spans : List Span) →
    list_any (λ s. test s.from) (reverse (span ∷ spans)) ≡ (list_any (λ s. test s.from) (reverse spans) || test span.from)
any-newest test span spans =
    ap (list_any (λ s. test s.from)) (reverse-more span spans) ∙ list_any-append (λ s. test s.from) (reverse spans) (span ∷ []) ∙
    ap (λ b. list_any (λ s. test s.from) (reverse spans) || b) (or_false (test span.from))

any-go_on : (test : ℕ → Bool) (o : Option (List ℕ)) (spans : List Span) →
    list_any (λ s. test s.from) (reverse (go_on o spans)) ≡ list_any (λ s. test s.from) (reverse spans)
any-go_on test None spans = refl
any-go_on test (Some item) [] = refl
any-go_on test (Some item) (span ∷ others) =
    any-newest test (record { from = span.from; to = span.to + 1; items = span.items ++ item ∷ [] }) others ∙ sym (any-newest test span others)

new-from : (n : ℕ) (o : Option (List ℕ)) → (new_span n o).from ≡ n
new-from n None = refl
new-from n (Some item) = refl

-- spans start where the history says so
any-history : (test : ℕ → Bool) (ts : List CallPeriod) → list_any (λ s. test s.from) (reverse (spans_in_history ts)) ≡ any_start test ts
any-history test [] = refl
any-history test (t ∷ past) = by t.starts (any-history test past)
  where
    by : (b : Bool) → list_any (λ s. test s.from) (reverse (spans_in_history past)) ≡ any_start test past →
        list_any (λ s. test s.from) (reverse (if b then new_span (length past) t.handed ∷ spans_in_history past else go_on t.handed (spans_in_history past)))
        ≡ (any_start test past || (b && test (length past)))
    by true e =
        any-newest test (new_span (length past) t.handed) (spans_in_history past) ∙ ap (λ b. b || test (new_span (length past) t.handed).from) e ∙
        ap (λ n. any_start test past || test n) (new-from (length past) t.handed)
    by false e = any-go_on test t.handed (spans_in_history past) ∙ e ∙ sym (or_false (any_start test past))

-- ---- a span starts at a period where a bridge does

any-later : (test : ℕ → Bool) (later ts : List CallPeriod) → ((n : ℕ) → length ts ≤ n → test n ≡ false) → any_start test (later ++ ts) ≡ any_start test ts
any-later test [] ts h = refl
any-later test (u ∷ later) ts h =
    let n = length-append later ts in
    ap (λ b. any_start test (later ++ ts) || (u.starts && b)) (h (length (later ++ ts)) (omega arith)) ∙
    ap (λ b. any_start test (later ++ ts) || b) (and_right u.starts false refl) ∙ or_false (any_start test (later ++ ts)) ∙ any-later test later ts h

any-none : (test : ℕ → Bool) (ts : List CallPeriod) → ((n : ℕ) → n < length ts → test n ≡ false) → any_start test ts ≡ false
any-none test [] h = refl
any-none test (t ∷ past) h =
    ap (λ b. any_start test past || (t.starts && b)) (h (length past) (omega arith)) ∙ ap (λ b. any_start test past || b) (and_right t.starts false refl) ∙
    or_false (any_start test past) ∙ any-none test past (λ n l. h n (omega arith))

and_true : (b : Bool) → (b && true) ≡ b
and_true true = refl
and_true false = refl

-- **A span starts at a period exactly where the history says so.**
pub starts_at-period : (ts : List CallPeriod) (t : CallPeriod) (past : List CallPeriod) → IsPeriod ts t past →
    starts_at (reverse (spans_in_history ts)) (length past) ≡ t.starts
starts_at-period ts t past p =
    let test : ℕ → Bool = λ n. n == length past in
    any-history test ts ∙ ap (any_start test) (sym p.1) ∙ any-later test p.0 (t ∷ past) (λ n l. ne_eqb n (length past) (omega arith)) ∙
    ap (λ b. b || (t.starts && length past == length past)) (any-none test past (λ n l. ne_eqb n (length past) (omega arith))) ∙
    ap (λ b. t.starts && b) (eq-eqb (length past) (length past) refl) ∙ and_true t.starts

-- ---- how many bridges started between two periods

-- how many start in periods of which the test holds
abbrev starts_in : (ℕ → Bool) → List CallPeriod → ℕ
starts_in test [] = 0
starts_in test (t ∷ past) = starts_in test past + (if t.starts && test (length past) then 1 else 0)

any-starts_in : (test : ℕ → Bool) (ts : List CallPeriod) → any_start test ts ≡ not (starts_in test ts == 0)
any-starts_in test [] = refl
any-starts_in test (t ∷ past) = by (t.starts && test (length past)) (any-starts_in test past)
  where
    by : (b : Bool) → any_start test past ≡ not (starts_in test past == 0) → (any_start test past || b) ≡ not (starts_in test past + (if b then 1 else 0) == 0)
    by true e = or_right (any_start test past) true refl ∙ sym (ap not (ne_eqb (starts_in test past + 1) 0 (omega arith)))
    by false e =
        let same : starts_in test past + 0 ≡ starts_in test past = omega arith in or_false (any_start test past) ∙ e ∙ sym (ap (λ n. not (n == 0)) same)

-- the periods up to a, and those after it up to b
abbrev up_to : ℕ → ℕ → Bool
up_to b n = nat_le n b

-- above a, and up to b
abbrev between : ℕ → ℕ → ℕ → Bool
between a b n = nat_lt a n && nat_le n b

-- one period lies before or between
one-split : (s : Bool) (a b n : ℕ) → a ≤ b → (if s && up_to b n then 1 else 0) ≡ (if s && up_to a n then 1 else 0) + (if s && between a b n then 1 else 0)
one-split false a b n l = refl
one-split true a b n l = elim (cases_lt a n) [
  | inl over ↦
      let e : nat_le n a ≡ false = lt-leb n a over in
      let q : nat_lt a n ≡ true = lt-ltb a n over in
      rw (e, q) (omega arith)
  | inr within ↦
      let e : nat_le n a ≡ true = le-leb n a within in
      let q : nat_lt a n ≡ false = le-ltb a n within in
      let m : nat_le n b ≡ true = le-leb n b (omega arith) in
      rw (e, q, m) refl
]

-- so are those that start
starts_in-split : (a b : ℕ) (ts : List CallPeriod) → a ≤ b → starts_in (up_to b) ts ≡ starts_in (up_to a) ts + starts_in (between a b) ts
starts_in-split a b [] l = refl
starts_in-split a b (t ∷ past) l =
    let rest = starts_in-split a b past l in
    let one = one-split t.starts a b (length past) l in
    omega arith

added_none : (x : ℕ) (s b : Bool) → b ≡ false → x + (if s && b then 1 else 0) ≡ x
added_none x true b e = ap (λ b. x + (if b then 1 else 0)) e ∙ omega arith
added_none x false b e = omega arith

starts_in-later : (test : ℕ → Bool) (later ts : List CallPeriod) → ((n : ℕ) → length ts ≤ n → test n ≡ false) → starts_in test (later ++ ts) ≡ starts_in test ts
starts_in-later test [] ts h = refl
starts_in-later test (u ∷ later) ts h =
    let n = length-append later ts in
    added_none (starts_in test (later ++ ts)) u.starts (test (length (later ++ ts))) (h (length (later ++ ts)) (omega arith)) ∙ starts_in-later test later ts h

-- all that started so far
starts_in-all : (test : ℕ → Bool) (ts : List CallPeriod) → ((n : ℕ) → n < length ts → test n ≡ true) → starts_in test ts ≡ bridges_begun ts
starts_in-all test [] h = refl
starts_in-all test (t ∷ past) h =
    ap (λ b. starts_in test past + (if t.starts && b then 1 else 0)) (h (length past) (omega arith))
    ∙ by t.starts (starts_in-all test past (λ n l. h n (omega arith)))
  where
    by : (b : Bool) → starts_in test past ≡ bridges_begun past →
        starts_in test past + (if b && true then 1 else 0) ≡ length (if b then t ∷ filter (λ t. t.starts) past else filter (λ t. t.starts) past)
    by true e = omega arith
    by false e = omega arith

-- as many started up to a period as its epoch says
begun-by : (ts : List CallPeriod) (t : CallPeriod) (past : List CallPeriod) → IsPeriod ts t past → starts_in (up_to (length past)) ts ≡ bridges_begun (t ∷ past)
begun-by ts t past p =
    ap (starts_in (up_to (length past))) (sym p.1) ∙ starts_in-later (up_to (length past)) p.0 (t ∷ past) (λ n l. lt-leb n (length past) (omega arith)) ∙
    starts_in-all (up_to (length past)) (t ∷ past) (λ n l. le-leb n (length past) (omega arith))

-- no span starts after the one period and not after the other exactly where as many bridges started by both
same_count : (x y d : ℕ) → y ≡ x + d → not (d == 0) ≡ not (x == y)
same_count x y d e = elim (cases_lt 0 d) [
  | inl some ↦ ap not (ne_eqb d 0 (omega arith) ∙ sym (ne_eqb x y (omega arith)))
  | inr none ↦ ap not (eq-eqb d 0 (omega arith) ∙ sym (eq-eqb x y (omega arith)))
]

-- **A span starts between two periods exactly where their epochs differ.**
pub starts-between : (ts : List CallPeriod) (t u : CallPeriod) (past before : List CallPeriod) → IsPeriod ts t past → IsPeriod ts u before →
    length past ≤ length before →
    list_any (λ span. nat_lt (length past) span.from && nat_le span.from (length before)) (reverse (spans_in_history ts))
    ≡ not (bridges_begun (t ∷ past) == bridges_begun (u ∷ before))
starts-between ts t u past before p q l =
    let x = begun-by ts t past p in
    let y = begun-by ts u before q in
    let split = starts_in-split (length past) (length before) ts l in
    any-history (between (length past) (length before)) ts ∙ any-starts_in (between (length past) (length before)) ts ∙
    same_count (bridges_begun (t ∷ past)) (bridges_begun (u ∷ before)) (starts_in (between (length past) (length before)) ts) (omega arith)
