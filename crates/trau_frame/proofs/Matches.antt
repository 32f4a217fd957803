-- For crates above: the sync pattern matches at a place of a line exactly if the 320 bits there are in sync
-- (`match_is_synced`).
use Rattle.std.proofs.Common.{◌≡◌, ℕ, zero, suc, ◌+◌, ◌*◌, ◌<◌, ◌≤◌, Bool, true, false, ◌&&◌, length, get_or, refl, sym, ap, ◌∙◌, subst, arith, inl, inr}
use Rattle.std.specs.List.{list_all, range_with_len}
use Rattle.std.proofs.lemmas.Bool.{cases_lt}
use Rattle.std.proofs.lemmas.List.FromFn.{length-map-range_with_len, get_or-map-range_with_len}
use Rattle.std.proofs.lemmas.Grind.{common_steps, same_number_lists}
use Rattle.trau_frame.specs.Role.{Role, Sync, Control, Data, Time, role_of}
use Rattle.trau_frame.specs.Frame.{Synced}
use Rattle.trau_frame.proofs.Places as places
use Rattle.trau_frame.specs.Match.{fits, is_match, frame_at}

-- ---- tests of each number of a range

-- tests of all of n numbers from a on
all_same : (p q : ℕ → Bool) (a n : ℕ) → ((k : ℕ) → a ≤ k → k < a + n → p k ≡ q k) → list_all p (range_with_len a n) ≡ list_all q (range_with_len a n)
all_same p q a zero h = refl
all_same p q a (suc n) h =
    let here : p a ≡ q a = h a (omega arith) (omega arith) in
    let rest = all_same p q (a + 1) n (λ k l m. h k (omega arith) (omega arith)) in
    cc

all_true : (p : ℕ → Bool) (a n : ℕ) → ((k : ℕ) → a ≤ k → k < a + n → p k ≡ true) → list_all p (range_with_len a n) ≡ true
all_true p a zero h = refl
all_true p a (suc n) h =
    let here : p a ≡ true = h a (omega arith) (omega arith) in
    let rest = all_true p (a + 1) n (λ k l m. h k (omega arith) (omega arith)) in
    rw (here, rest) refl

both : (a b : Bool) → (a && b) ≡ true → (a ≡ true) × (b ≡ true)
both true true h = (refl, refl)
both true false h = absurd (cc)
both false b h = absurd (cc)

true_at : (p : ℕ → Bool) (a n : ℕ) → list_all p (range_with_len a n) ≡ true → (k : ℕ) → a ≤ k → k < a + n → p k ≡ true
true_at p a zero h k l m = absurd (omega arith)
true_at p a (suc n) h k l m =
    let parts = both (p a) (list_all p (range_with_len (a + 1) n)) h in
    elim (cases_lt a k) [
      | inl later ↦ true_at p (a + 1) n parts.1 k (omega arith) (omega (arith, m))
      | inr here ↦ let e : a ≡ k = omega arith in subst (λ j. p j ≡ true) e parts.0
    ]

-- ---- the same bits

pub is_match-same : (f g : ℕ → ℕ) (p q : ℕ) → ((i : ℕ) → i < 320 → f (p + i) ≡ g (q + i)) → is_match f p ≡ is_match g q
unfolding is_match
is_match-same f g p q h =
    all_same (λ i. fits (role_of i) (f (p + i))) (λ i. fits (role_of i) (g (q + i))) 0 320 (λ k l m. ap (fits (role_of k)) (h k (omega arith)))

pub length-frame_at : (line : ℕ → ℕ) (p : ℕ) → length (frame_at line p) ≡ 320
unfolding frame_at
length-frame_at line p = length-map-range_with_len (λ i. line (p + i)) 0 320

pub get_or-frame_at : (line : ℕ → ℕ) (p i d : ℕ) → i < 320 → get_or (frame_at line p) i d ≡ line (p + i)
unfolding frame_at
get_or-frame_at line p i d h = get_or-map-range_with_len (λ i. line (p + i)) 0 320 i i d h (omega arith)

pub frame_at-same : (f g : ℕ → ℕ) (p q : ℕ) → ((i : ℕ) → i < 320 → f (p + i) ≡ g (q + i)) → frame_at f p ≡ frame_at g q
frame_at-same f g p q h =
    same_number_lists _ _ (length-frame_at f p ∙ sym (length-frame_at g q)) (λ k below.
    let count = length-frame_at f p in
    let inside : k < 320 = omega arith in
    get_or-frame_at f p k 0 inside ∙ h k inside ∙ sym (get_or-frame_at g q k 0 inside))

-- ---- the sync bits

-- a bit that fits a role of a sync bit is its value
fits_says : (r : Role) (value bit : ℕ) → fits r bit ≡ true → r ≡ Sync value → bit ≡ value
fits_says r value bit h e =
    let f : fits (Sync value) bit ≡ true = subst (λ r. fits r bit ≡ true) e h in
    grind (arith, common_steps)

-- and the other way round
fits_from : (r : Role) (bit : ℕ) → ((value : ℕ) → r ≡ Sync value → bit ≡ value) → fits r bit ≡ true
fits_from (Sync value) bit h = let e : bit ≡ value = h value refl in grind (arith, common_steps)
fits_from (Control c) bit h = refl
fits_from (Data n) bit h = refl
fits_from (Time t) bit h = refl

pub match_is_synced : (line : ℕ → ℕ) (p : ℕ) → is_match line p ≡ true → Synced (frame_at line p)
unfolding is_match
match_is_synced line p m = λ i value h e.
    get_or-frame_at line p i 0 h ∙
    fits_says (role_of i) value (line (p + i)) (true_at (λ i. fits (role_of i) (line (p + i))) 0 320 m i (omega arith) (omega arith)) e

pub synced_is_match : (line : ℕ → ℕ) (p : ℕ) → Synced (frame_at line p) → is_match line p ≡ true
unfolding is_match
synced_is_match line p s =
    all_true (λ i. fits (role_of i) (line (p + i))) 0 320 (λ i l m.
    fits_from (role_of i) (line (p + i)) (λ value e. let h : i < 320 = omega arith in sym (get_or-frame_at line p i 0 h) ∙ s i value h e))

-- the sixteen zeros, and the nineteen ones
pub match_zeros : (line : ℕ → ℕ) (p : ℕ) → is_match line p ≡ true → (i : ℕ) → i < 16 → line (p + i) ≡ 0
match_zeros line p m i h = sym (get_or-frame_at line p i 0 (omega arith)) ∙ places.synced_zeros _ (match_is_synced line p m) i h

-- a match has ones at the starts of its rows
pub match_ones : (line : ℕ → ℕ) (p : ℕ) → is_match line p ≡ true → (row : ℕ) → 1 ≤ row → row < 20 → line (p + 16 * row) ≡ 1
match_ones line p m row l h =
    sym (get_or-frame_at line p (16 * row) 0 (omega arith)) ∙ places.synced_ones _ (match_is_synced line p m) row l h

-- zeros in the first row and ones at the starts of the others make a match
pub match_from : (line : ℕ → ℕ) (p : ℕ) → ((i : ℕ) → i < 16 → line (p + i) ≡ 0) →
    ((row : ℕ) → 1 ≤ row → row < 20 → line (p + 16 * row) ≡ 1) → is_match line p ≡ true
match_from line p zeros ones =
    synced_is_match line p (places.synced (frame_at line p)
    (λ i h. get_or-frame_at line p i 0 (omega arith) ∙ zeros i h)
    (λ row l h. get_or-frame_at line p (16 * row) 0 (omega arith) ∙ ones row l h))
