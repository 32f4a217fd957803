-- For crates above: what a period of a history is: it, and the periods before it (`IsPeriod`).
-- What a history says of each period, in the order of the periods.
use Rattle.std.proofs.Common.{◌≡◌, refl, sym, ap, ◌∙◌, ℕ, ◌+◌, ◌<◌, List, [], ◌∷◌, ◌++◌, length, map, reverse, arith, append_assoc, length-append, get_or}
use Rattle.std.specs.List.{range_with_len}
use Rattle.std.proofs.lemmas.List.{append-nil, get_or_at}
use Rattle.std.proofs.lemmas.List.FromFn.{map-range_with_len_more}
use Rattle.call_spec.proofs.Stretched.{reverse-more}

-- period t, after those of the past, is one of the history
abbrev pub IsPeriod : {A : Type 0} → List A → A → List A → Type 0
IsPeriod {A} ts t past = (later : List A) × (later ++ t ∷ past ≡ ts)

-- so is the one before it
pub one_before : {A : Type 0} (ts : List A) (t u : A) (past : List A) → IsPeriod ts t (u ∷ past) → IsPeriod ts u past
one_before ts t u past p = (p.0 ++ t ∷ [], append_assoc p.0 (t ∷ []) (u ∷ past) ∙ p.1)

-- a period is one of them
pub below : {A : Type 0} (ts : List A) (t : A) (past : List A) → IsPeriod ts t past → length past < length ts
below ts t past p = let n = length-append p.0 (t ∷ past) in let m = ap length p.1 in omega arith

-- each period's value, the oldest first
abbrev pub each : {A B : Type 0} → (A → List A → B) → List A → List B
each value [] = []
each value (t ∷ past) = each value past ++ value t past ∷ []

pub length-each : {A B : Type 0} (value : A → List A → B) (ts : List A) → length (each value ts) ≡ length ts
length-each value [] = refl
length-each value (t ∷ past) = let n = length-each value past in length-append (each value past) (value t past ∷ []) ∙ omega arith

-- a function of the period's number that gives the value of each
pub each-numbered : {A B : Type 0} (ts : List A) (f : ℕ → B) (value : A → List A → B) →
    ((t : A) (past : List A) → IsPeriod ts t past → f (length past) ≡ value t past) → map f (range_with_len 0 (length ts)) ≡ each value ts
each-numbered ts f value h = go [] ts refl
  where
    go : (later us : List _) → later ++ us ≡ ts → map f (range_with_len 0 (length us)) ≡ each value us
    go later [] e = refl
    go later (t ∷ past) e =
        let n : length (t ∷ past) ≡ length past + 1 = omega arith in
        ap (λ n. map f (range_with_len 0 n)) n ∙ map-range_with_len_more f 0 (length past) (length past) (omega arith) ∙
        ap (λ z. z ++ f (length past) ∷ []) (go (later ++ t ∷ []) past (append_assoc later (t ∷ []) past ∙ e)) ∙
        ap (λ v. each value past ++ v ∷ []) (h t past (later, e))

-- with the newest first
abbrev pub each_back : {A B : Type 0} → (A → List A → B) → List A → List B
each_back value [] = []
each_back value (t ∷ past) = value t past ∷ each_back value past

-- the oldest first are the newest first turned round
pub each-reverse : {A B : Type 0} (value : A → List A → B) (ts : List A) → each value ts ≡ reverse (each_back value ts)
each-reverse value [] = refl
each-reverse value (t ∷ past) = ap (λ z. z ++ value t past ∷ []) (each-reverse value past) ∙ sym (reverse-more (value t past) (each_back value past))

-- the value of a period among those of all
pub each-later : {A B : Type 0} (value : A → List A → B) (later ts : List A) → (more : List B) × (each value (later ++ ts) ≡ each value ts ++ more)
each-later value [] ts = ([], sym (append-nil (each value ts)))
each-later value (t ∷ later) ts =
    let before = each-later value later ts in (
      before.0 ++ value t (later ++ ts) ∷ [],
      ap (λ z. z ++ value t (later ++ ts) ∷ []) before.1 ∙ append_assoc (each value ts) before.0 (value t (later ++ ts) ∷ []),
    )

-- the value of a period stands at its place
pub each-at : {A B : Type 0} (value : A → List A → B) (d : B) (ts : List A) (t : A) (past : List A) → IsPeriod ts t past →
    get_or (each value ts) (length past) d ≡ value t past
each-at value d ts t past p =
    let more = each-later value p.0 (t ∷ past) in
    ap (λ us. get_or (each value us) (length past) d) (sym p.1)
    ∙ ap (λ z. get_or z (length past) d) (more.1 ∙ append_assoc (each value past) (value t past ∷ []) more.0) ∙
    get_or_at (each value past) (value t past) more.0 d (length past) (length-each value past)
