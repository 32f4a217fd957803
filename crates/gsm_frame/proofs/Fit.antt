-- Thirteen values of three bits.
use Rattle.std.proofs.Common.{ℕ, ◌<◌, ◌^◌, [], ◌∷◌}
use Rattle.std.proofs.lemmas.List.Elements.{All-cons, All-nil}
use Rattle.trau_params.specs.Widths.{FitWidth}

abbrev Fits8 : ℕ → Type 0
Fits8 v = v < 2 ^ 3

pub fit_thirteen : (a b c d e f g h i j k l m : ℕ) → a < 8 → b < 8 → c < 8 → d < 8 → e < 8 → f < 8 → g < 8 → h < 8 → i < 8 → j < 8 → k < 8 →
    l < 8 → m < 8 → FitWidth 3 (a ∷ b ∷ c ∷ d ∷ e ∷ f ∷ g ∷ h ∷ i ∷ j ∷ k ∷ l ∷ m ∷ [])
fit_thirteen a b c d e f g h i j k l m ha hb hc hd he hf hg hh hi hj hk hl hm =
    (All-cons Fits8 a (b ∷ c ∷ d ∷ e ∷ f ∷ g ∷ h ∷ i ∷ j ∷ k ∷ l ∷ m ∷ []) ha
    (All-cons Fits8 b (c ∷ d ∷ e ∷ f ∷ g ∷ h ∷ i ∷ j ∷ k ∷ l ∷ m ∷ []) hb
    (All-cons Fits8 c (d ∷ e ∷ f ∷ g ∷ h ∷ i ∷ j ∷ k ∷ l ∷ m ∷ []) hc
    (All-cons Fits8 d (e ∷ f ∷ g ∷ h ∷ i ∷ j ∷ k ∷ l ∷ m ∷ []) hd
    (All-cons Fits8 e (f ∷ g ∷ h ∷ i ∷ j ∷ k ∷ l ∷ m ∷ []) he
    (All-cons Fits8 f (g ∷ h ∷ i ∷ j ∷ k ∷ l ∷ m ∷ []) hf
    (All-cons Fits8 g (h ∷ i ∷ j ∷ k ∷ l ∷ m ∷ []) hg
    (All-cons Fits8 h (i ∷ j ∷ k ∷ l ∷ m ∷ []) hh
    (All-cons Fits8 i (j ∷ k ∷ l ∷ m ∷ []) hi
    (All-cons Fits8 j (k ∷ l ∷ m ∷ []) hj
    (All-cons Fits8 k (l ∷ m ∷ []) hk
    (All-cons Fits8 l (m ∷ []) hl
    (All-cons Fits8 m [] hm (All-nil Fits8))))))))))))))
