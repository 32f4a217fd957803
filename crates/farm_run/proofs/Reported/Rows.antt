-- The rows of the bridges, from the last one back: what a call sent in a bridge is what its next bridge notes, or what
-- it has sent so far.
use Rattle.std.proofs.Common.{◌≡◌, ◌≢◌, refl, sym, ap, ◌∙◌, subst, ℕ, ◌<◌, Bool, true, false, Some, List, [], ◌∷◌, ◌++◌, length, map, reverse}
use Rattle.std.proofs.Common.{get_or, set, inl, inr, ◌⊎◌, arith}
use Rattle.std.specs.Prelude.{◌==◌, if◌then◌else◌}
use Rattle.std.proofs.Math.Seq.{get_or-append_seam}
use Rattle.std.proofs.lemmas.Bool.{cases_eq, or_left, or_right, or_from, eq-eqb, ne_eqb}
use Rattle.std.proofs.lemmas.List.{append-nil, append_assoc, length-append, length-set, get_or-map, get_or-set_same, get_or-set_other, reverse-append}
use Rattle.call_number.specs.declared.TheConstants.{NUMBERS}
use Rattle.switchboard.specs.declared.act.Span.{Span}
use Rattle.switchboard.specs.declared.table.Bridge.{Bridge}
use Rattle.switchboard.specs.Bridges.{joins, no_bridge}
use Rattle.switchboard.specs.Stands.{IsLatest}
use Rattle.farm_report.specs.declared.report.SpanLine.{SpanLine}
use Rattle.farm_run.specs.declared.notes.SentBefore.{SentBefore}
use Rattle.farm_run.specs.Facts.{sent_until, span_line, span_lines}
use Rattle.farm_run.specs.Noted.{AreNotes}
use Rattle.farm_run.proofs.Noted.Latest.{latest_push, latest_new}

-- a bridge's span
abbrev span : (Bridge → ℕ) → Bridge → Span
span to x = record { a = x.a; b = x.b; from = x.from; to = to x }

-- **What a call sent in its latest bridge before these ones.**
pub until_is : (sent_in : ℕ → ℕ → ℕ) (sent : ℕ → ℕ) (to : Bridge → ℕ) (c k : ℕ) (front xs : List Bridge) (ns : List SentBefore) →
    AreNotes sent_in front xs ns → ((j : ℕ) → IsLatest (front ++ xs) c (Some j) → sent c ≡ sent_in j c) → IsLatest front c (Some k) →
    sent_until sent (map (span to) xs) ns c ≡ sent_in k c
until_is sent_in sent to c k front [] [] a last l = last k (subst (λ (bs : List Bridge). IsLatest bs c (Some k)) (sym (append-nil front)) l)
until_is sent_in sent to c k front [] (n ∷ ns) a last l = absurd a
until_is sent_in sent to c k front (x ∷ xs) [] a last l = absurd a
until_is sent_in sent to c k front (x ∷ xs) (n ∷ ns) a last l =
    by (λ f. until_is sent_in sent to c k (front ++ x ∷ []) xs ns a.1
    (λ j m. last j (subst (λ (bs : List Bridge). IsLatest bs c (Some j)) (append_assoc front (x ∷ []) xs) m)) (latest_push front x c k f l))
    (c == x.a) (c == x.b) refl refl
  where
    by : (joins c x ≡ false → sent_until sent (map (span to) xs) ns c ≡ sent_in k c) → (p q : Bool) → (c == x.a) ≡ p → (c == x.b) ≡ q →
        (if p then n.by_a else if q then n.by_b else sent_until sent (map (span to) xs) ns c) ≡ sent_in k c
    by rest true q e f = sym (ap (λ (b : Bool). if b then n.by_a else n.by_b) e) ∙ a.0 c k (or_left (c == x.a) (c == x.b) e) l
    by rest false true e f = sym (ap (λ (b : Bool). if b then n.by_a else n.by_b) e) ∙ a.0 c k (or_right (c == x.a) (c == x.b) f) l
    by rest false false e f = rest (or_from (c == x.a) (c == x.b) e f)

-- **The rows of these bridges tell what each call sent in each of them.** `tell` says what a call sends in a span.
pub rows_are : (tell : Span → ℕ → ℕ) (d : Span) (sent : ℕ → ℕ) (to : Bridge → ℕ)
    (all front xs : List Bridge) (ns : List SentBefore) → all ≡ front ++ xs →
    AreNotes (λ j c. tell (get_or (map (span to) all) j d) c) front xs ns →
    ((c j : ℕ) → IsLatest all c (Some j) → sent c ≡ tell (get_or (map (span to) all) j d) c) →
    span_lines sent (map (span to) xs) ns ≡ map (λ s. span_line s (tell s s.a) (tell s s.b)) (map (span to) xs)
rows_are tell d sent to all front [] [] e a last = refl
rows_are tell d sent to all front [] (n ∷ ns) e a last = absurd a
rows_are tell d sent to all front (x ∷ xs) [] e a last = absurd a
rows_are tell d sent to all front (x ∷ xs) (n ∷ ns) e a last =
    ap (λ (v : ℕ). span_line s v (sent_until sent (map (span to) xs) ns x.b) ∷ span_lines sent (map (span to) xs) ns)
    (until x.a (or_left (x.a == x.a) (x.a == x.b) (eq-eqb x.a x.a refl)))
    ∙ ap (λ (v : ℕ). span_line s (tell s x.a) v ∷ span_lines sent (map (span to) xs) ns) (until x.b (or_right (x.b == x.a) (x.b == x.b) (eq-eqb x.b x.b refl)))
    ∙ ap (λ (ys : List SpanLine). span_line s (tell s x.a) (tell s x.b) ∷ ys) (rows_are tell d sent to all (front ++ x ∷ []) xs ns next a.1 last)
  where
    s : Span
    s = span to x

    next : all ≡ (front ++ x ∷ []) ++ xs
    next = e ∙ sym (append_assoc front (x ∷ []) xs)

    here : get_or (map (span to) all) (length front) d ≡ s
    here =
        let long : length front < length all = (let e = ap length e in let n = length-append front (x ∷ xs) in omega arith) in
        get_or-map (span to) all (length front) no_bridge d long
        ∙ ap (span to) (ap (λ (bs : List Bridge). get_or bs (length front) no_bridge) e ∙ get_or-append_seam front x xs no_bridge)

    until : (c : ℕ) → joins c x ≡ true → sent_until sent (map (span to) xs) ns c ≡ tell s c
    until c j =
        until_is (λ j c. tell (get_or (map (span to) all) j d) c) sent to c (length front) (front ++ x ∷ []) xs ns a.1
        (λ i m. last c i (subst (λ (bs : List Bridge). IsLatest bs c (Some i)) (sym next) m)) (latest_new front x c j)
        ∙ ap (λ (y : Span). tell y c) here

-- ---- one row more

-- where a list has ended, a call has sent what it has so far, and there is no row
pub until_none : (sent : ℕ → ℕ) (xs : List Span) (ns : List SentBefore) (c : ℕ) →
    (length xs ≡ 0) ⊎ (length ns ≡ 0) → sent_until sent xs ns c ≡ sent c
until_none sent [] ns c h = refl
until_none sent (x ∷ xs) [] c h = refl
until_none sent (x ∷ xs) (n ∷ ns) c h = elim h [ inl e ↦ absurd (omega arith) | inr e ↦ absurd (omega arith) ]

pub no_rows : (sent : ℕ → ℕ) (xs : List Span) (ns : List SentBefore) → (length xs ≡ 0) ⊎ (length ns ≡ 0) → span_lines sent xs ns ≡ []
no_rows sent [] ns h = refl
no_rows sent (x ∷ xs) [] h = refl
no_rows sent (x ∷ xs) (n ∷ ns) h = elim h [ inl e ↦ absurd (omega arith) | inr e ↦ absurd (omega arith) ]

-- **The table, once the note of a bridge was taken.**
pub table_before : (sent : ℕ → ℕ) (x : Span) (n : SentBefore) (xs : List Span)
    (ns : List SentBefore) (table : List ℕ) → length table ≡ NUMBERS →
    x.a < NUMBERS → x.b < NUMBERS → ((c : ℕ) → c < NUMBERS → get_or table c 0 ≡ sent_until sent xs ns c) → (c : ℕ) → c < NUMBERS →
    get_or (set (set table x.b n.by_b) x.a n.by_a) c 0 ≡ sent_until sent (x ∷ xs) (n ∷ ns) c
table_before sent x n xs ns table long a b h c l = elim (cases_eq c x.a) [
  | inl q ↦ ap (λ (c : ℕ). get_or (set (set table x.b n.by_b) x.a n.by_a) c 0) q
      ∙ get_or-set_same (set table x.b n.by_b) x.a n.by_a 0 (let e = length-set table x.b n.by_b in omega (arith, e, long, a))
      ∙ sym (ap (λ (t : Bool). if t then n.by_a else if c == x.b then n.by_b else sent_until sent xs ns c) (eq-eqb c x.a q))
  | inr m ↦ get_or-set_other (set table x.b n.by_b) x.a c n.by_a 0 m ∙ by (cases_eq c x.b)
      ∙ sym (ap (λ (t : Bool). if t then n.by_a else if c == x.b then n.by_b else sent_until sent xs ns c) (ne_eqb c x.a m))
]
  where
    by : (c ≡ x.b) ⊎ (c ≢ x.b) → get_or (set table x.b n.by_b) c 0 ≡ (if c == x.b then n.by_b else sent_until sent xs ns c)
    by (inl q) = ap (λ (c : ℕ). get_or (set table x.b n.by_b) c 0) q ∙ get_or-set_same table x.b n.by_b 0 (omega (arith, long, b))
        ∙ sym (ap (λ (t : Bool). if t then n.by_b else sent_until sent xs ns c) (eq-eqb c x.b q))
    by (inr m) = get_or-set_other table x.b c n.by_b 0 m ∙ h c l
        ∙ sym (ap (λ (t : Bool). if t then n.by_b else sent_until sent xs ns c) (ne_eqb c x.b m))

-- **One row more.**
pub row_before : (sent : ℕ → ℕ) (x : Span) (n : SentBefore) (xs : List Span) (ns : List SentBefore)
    (table : List ℕ) (lines : List SpanLine) →
    x.a < NUMBERS → x.b < NUMBERS →
    ((c : ℕ) → c < NUMBERS → get_or table c 0 ≡ sent_until sent xs ns c) →
    reverse lines ≡ span_lines sent xs ns →
    reverse (lines ++ span_line x (get_or table x.a 0) (get_or table x.b 0) ∷ []) ≡ span_lines sent (x ∷ xs) (n ∷ ns)
row_before sent x n xs ns table lines a b h is =
    reverse-append lines (span_line x (get_or table x.a 0) (get_or table x.b 0) ∷ [])
    ∙ ap (λ (ys : List SpanLine). span_line x (get_or table x.a 0) (get_or table x.b 0) ∷ ys) is
    ∙ ap (λ (v : ℕ). span_line x v (get_or table x.b 0) ∷ span_lines sent xs ns) (h x.a a)
    ∙ ap (λ (v : ℕ). span_line x (sent_until sent xs ns x.a) v ∷ span_lines sent xs ns) (h x.b b)
