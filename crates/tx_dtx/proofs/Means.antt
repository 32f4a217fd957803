-- The means of four frames.
use Rattle.std.proofs.Common.{◌≡◌, ℕ, ℤ, pos, ◌+ℤ◌, ◌≤ℤ◌, List, [], ◌∷◌, All, length, map, replicate, unsigned_abs, arith, ap, ◌∙◌}
use Rattle.std.specs.List.{range_with_len}
use Rattle.std.proofs.lemmas.Int.{ints}
use Rattle.std.proofs.lemmas.List.Elements.{All-head, All-tail}
use Rattle.trau_num.specs.Num.{entry}
use Rattle.tx_dtx.specs.Stretch.{Measures}
use Rattle.tx_dtx.specs.SilenceDescriptor.{total, mean_ratio, mean_maximum, sid_of}
use Rattle.trau_params.specs.Fields.{Fields}
use Rattle.fr_lpc.specs.Ratios.{ratio_codes}
use Rattle.fr_rpe.specs.Quantisation.{coded_maximum}

-- sums of four, as the code adds them
four : (a b c d : ℤ) → (a +ℤ b) +ℤ (c +ℤ d) ≡ total (a ∷ b ∷ c ∷ d ∷ [])
four a b c d = omega (arith, ints)

-- two sums of two each
pub two_pairs : (x y a b c d : ℤ) → x ≡ a +ℤ b → y ≡ c +ℤ d → x +ℤ y ≡ total (a ∷ b ∷ c ∷ d ∷ [])
two_pairs x y a b c d p q = let e = four a b c d in cc

pub four_sums : (w x y z a b c d : ℤ) → w ≡ a → x ≡ b → y ≡ c → z ≡ d → (w +ℤ x) +ℤ (y +ℤ z) ≡ total (a ∷ b ∷ c ∷ d ∷ [])
four_sums w x y z a b c d p q r s = let e = four a b c d in cc

total_four : (xs : List ℤ) → length xs ≡ 4 → (entry xs 0 +ℤ entry xs 1) +ℤ (entry xs 2 +ℤ entry xs 3) ≡ total xs
total_four [] l = absurd (omega arith)
total_four (a ∷ []) l = absurd (omega arith)
total_four (a ∷ b ∷ []) l = absurd (omega arith)
total_four (a ∷ b ∷ c ∷ []) l = absurd (omega arith)
total_four (a ∷ b ∷ c ∷ d ∷ []) l = four a b c d
total_four (a ∷ b ∷ c ∷ d ∷ e ∷ more) l = absurd (omega arith)

pub two_sums : (x y : ℤ) (xs : List ℤ) → length xs ≡ 4 → x ≡ entry xs 0 +ℤ entry xs 1 → y ≡ entry xs 2 +ℤ entry xs 3 → x +ℤ y ≡ total xs
two_sums x y xs l a b = let t = total_four xs l in cc

pub total-not_negative : (xs : List ℤ) → All (λ x. pos 0 ≤ℤ x) xs → pos 0 ≤ℤ total xs
total-not_negative [] a = omega (arith, ints)
total-not_negative (x ∷ xs) a =
    let h = All-head (λ x. pos 0 ≤ℤ x) x xs a in
    let t = total-not_negative xs (All-tail (λ x. pos 0 ≤ℤ x) x xs a) in
    omega (arith, ints)

-- frames are the same where their fields are
abbrev fields : List ℕ → List ℕ → List ℕ → List ℕ → List ℕ → List (List ℕ) → Fields
fields larc nc bc mc xmaxc xmc = record { larc = larc; nc = nc; bc = bc; mc = mc; xmaxc = xmaxc; xmc = xmc }

same_parts : (l n b m x l' n' b' m' x' : List ℕ) (p p' : List (List ℕ)) → l ≡ l' → n ≡ n' → b ≡ b' → m ≡ m' → x ≡ x' → p ≡ p' →
    fields l n b m x p ≡ fields l' n' b' m' x' p'
same_parts l n b m x l' n' b' m' x' p p' el en eb em ex ep = cc

same_fields : (f g : Fields) → f.larc ≡ g.larc → f.nc ≡ g.nc → f.bc ≡ g.bc → f.mc ≡ g.mc → f.xmaxc ≡ g.xmaxc → f.xmc ≡ g.xmc → f ≡ g
same_fields f g = same_parts f.larc f.nc f.bc f.mc f.xmaxc g.larc g.nc g.bc g.mc g.xmaxc f.xmc g.xmc

-- a frame of the coded means
pub described_by : (f : Fields) (measures : List Measures) (lar : List ℤ) (larc : List ℕ) (mean : ℤ) (xmaxc : ℕ) →
    lar ≡ map (mean_ratio measures) (range_with_len 0 8) → larc ≡ ratio_codes lar → mean ≡ mean_maximum measures → xmaxc ≡ coded_maximum (unsigned_abs mean) →
    f.larc ≡ larc → f.nc ≡ replicate 4 0 → f.bc ≡ replicate 4 0 → f.mc ≡ replicate 4 0 → f.xmaxc ≡ replicate 4 xmaxc → f.xmc ≡ replicate 4 (replicate 13 0) →
    f ≡ sid_of measures
unfolding sid_of
described_by f measures lar larc mean xmaxc el ec em ex fl fn fb fm fx fp =
    same_fields f (sid_of measures) (fl ∙ ec ∙ ap ratio_codes el) fn fb fm (fx ∙ ap (replicate 4) (ex ∙ ap (λ z. coded_maximum (unsigned_abs z)) em)) fp
