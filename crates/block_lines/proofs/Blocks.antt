-- For crates above: the octets of whole blocks (`octets_in`), with one block more (`concat_push`), and with a part of
-- the next (`few_with`).
use Rattle.std.proofs.Common.{◌≡◌, ℕ, ◌+◌, ◌*◌, ◌≤◌, List, [], ◌∷◌, ◌++◌, length, All, sym, ◌∙◌, ap, arith, length-append, append-nil}
use Rattle.std.specs.List.{concat}
use Rattle.std.proofs.Math.Nat.{mul-suc, mul-zero}
use Rattle.std.proofs.lemmas.List.Elements.{All-head, All-tail}
use Rattle.std.proofs.lemmas.List.Folds.{concat-append}

-- one block more
pub concat_push : (blocks : List (List ℕ)) (block : List ℕ) → concat (blocks ++ block ∷ []) ≡ concat blocks ++ block
concat_push blocks block = concat-append blocks (block ∷ []) ∙ ap (λ l. concat blocks ++ l) (append-nil block)

-- the octets of whole blocks
pub octets_in : (size : ℕ) (blocks : List (List ℕ)) → All (λ block. length block ≡ size) blocks → length (concat blocks) ≡ size * length blocks
octets_in size [] whole = sym (mul-zero size)
octets_in size (block ∷ blocks) whole =
    let here : length block ≡ size = All-head (λ b. length b ≡ size) block blocks whole in
    length-append block (concat blocks)
    ∙ omega (arith, here, octets_in size blocks (All-tail (λ b. length b ≡ size) block blocks whole), mul-suc size (length blocks))

-- and of those with what was read behind them
pub few_with : (size most : ℕ) (blocks : List (List ℕ)) (last : List ℕ) (n : ℕ) → All (λ block. length block ≡ size) blocks → length blocks ≡ n →
    size * n + length last ≤ most → length (concat blocks ++ last) ≤ most
few_with size most blocks last n whole count few =
    let octets : length (concat blocks) ≡ size * n = octets_in size blocks whole ∙ ap (λ k. size * k) count in
    omega (arith, length-append (concat blocks) last, octets, few)
