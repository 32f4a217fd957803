-- For crates above: what is known of a line after octets were appended to it or consumed, and at its end (`appended`,
-- `consumed`, `at_end`).
-- Octets are cut into blocks in one way only; and what lines that tell their octets gave and gained.
use Rattle.std.proofs.Common.{◌≡◌, inl, inr, ℕ, ◌+◌, List, [], ◌∷◌, ◌++◌, length, take, All, Option, Some, None, refl, sym, ◌∙◌, ap, subst, arith}
use Rattle.std.proofs.Common.{append_assoc, append-nil, length-append}
use Rattle.std.specs.List.{concat}
use Rattle.std.specs.Io.KnownBytes.{Appends, Consumes, IsAtEnd}
use Rattle.std.proofs.lemmas.List.{append_cancel_left, append_cancel_right, take_all, take_at}
use Rattle.std.proofs.lemmas.List.Elements.{All-append, All-cons, All-head, All-nil, All-tail}
use Rattle.block_lines.specs.Machines.{IsBlock, IsLawful, IsNext, IsRefused, IsRest, Machine}
use Rattle.block_lines.proofs.Blocks.{concat_push}

-- what a line that tells its octets gave between two moments is one list
pub one_given : (before now : Option (List ℕ)) (octets xs ys : List ℕ) → before ≡ Some octets → Consumes before now xs → Consumes before now ys → xs ≡ ys
one_given None now octets xs ys told first second = absurd (cc)
one_given (Some all) None octets xs ys told first second = absurd first
one_given (Some all) (Some rest) octets xs ys told first second = append_cancel_right xs ys rest (sym first ∙ second)

-- known octets that were consumed, and those that others were appended to
pub consumed : (a b : Option (List ℕ)) (xs bs : List ℕ) → a ≡ Some xs → Consumes a b bs → (ys : List ℕ) × (b ≡ Some ys) × (xs ≡ bs ++ ys)
consumed None b xs bs is took = absurd (cc)
consumed (Some x) None xs bs is took = absurd took
consumed (Some x) (Some y) xs bs is took = let same : x ≡ xs = cc in (y, refl, sym same ∙ took)

pub appended : (a b : Option (List ℕ)) (xs bs : List ℕ) → a ≡ Some xs → Appends a b bs → b ≡ Some (xs ++ bs)
appended None b xs bs is added = absurd (cc)
appended (Some x) None xs bs is added = absurd added
appended (Some x) (Some y) xs bs is added = let same : x ≡ xs = cc in ap Some (added ∙ ap (λ l. l ++ bs) same)

-- a known line at its end
pub at_end : (b : Option (List ℕ)) (ys : List ℕ) → b ≡ Some ys → IsAtEnd b → ys ≡ []
at_end None ys is end = absurd (cc)
at_end (Some y) ys is end = let same : y ≡ ys = cc in sym same ∙ end

module _ (M : Machine) where
  -- a block and what is left are as long as they are
  long : (block more : List ℕ) → IsBlock M block → length (block ++ more) ≡ M.shape.octets + length more
  long block more is = length-append block more ∙ ap (λ n. n + length more) is.whole

  -- two lists of blocks begin with the same block, and go on alike
  front_is : (b c xs ys : List ℕ) → IsBlock M b → IsBlock M c → b ++ xs ≡ c ++ ys → b ≡ c
  front_is b c xs ys first second same = sym (take_at b xs M.shape.octets first.whole) ∙ ap (λ l. take M.shape.octets l) same
      ∙ take_at c ys M.shape.octets second.whole

  rest_is : (b c xs ys : List ℕ) → b ≡ c → b ++ xs ≡ c ++ ys → xs ≡ ys
  rest_is b c xs ys front same = append_cancel_left c xs ys (ap (λ l. l ++ xs) (sym front) ∙ same)

  -- octets that are blocks, with what may be left behind them, are no blocks with a refused one behind them
  pub no_refused : (blocks others : List (List ℕ)) (rest last : List ℕ) (ended : Type 0) → All (IsBlock M) blocks → All (IsBlock M) others →
      IsRest M rest →
      IsRefused M last ended → concat blocks ++ rest ≡ concat others ++ last → ⊥
  no_refused [] [] rest last ended takens goods left refused same = refused.bad (inr (subst (IsRest M) same left))
  no_refused [] (c ∷ cs) rest last ended takens goods left refused same =
      let first = All-head (IsBlock M) c cs goods in
      let count : length rest ≡ M.shape.octets + length (concat cs ++ last) =
      ap length (same ∙ append_assoc c (concat cs) last) ∙ long c (concat cs ++ last) first in
      omega (arith, count, left.less)
  no_refused (b ∷ bs) [] rest last ended takens goods left refused same =
      let first = All-head (IsBlock M) b bs takens in
      let split : b ++ (concat bs ++ rest) ≡ last = sym (append_assoc b (concat bs) rest) ∙ same in
      let whole : b ≡ last = sym (take_at b (concat bs ++ rest) M.shape.octets first.whole) ∙ ap (λ l. take M.shape.octets l) split
      ∙ take_all M.shape.octets last refused.bound in
      refused.bad (inl (subst (IsBlock M) whole first))
  no_refused (b ∷ bs) (c ∷ cs) rest last ended takens goods left refused same =
      let split : b ++ (concat bs ++ rest) ≡ c ++ (concat cs ++ last) = sym (append_assoc b (concat bs) rest) ∙ same ∙ append_assoc c (concat cs) last in
      let front = front_is b c _ _ (All-head (IsBlock M) b bs takens) (All-head (IsBlock M) c cs goods) split in
      no_refused bs cs rest last ended (All-tail (IsBlock M) b bs takens) (All-tail (IsBlock M) c cs goods) left refused (rest_is b c _ _ front split)

  -- and so are blocks with one more behind them
  pub no_refused_next : IsLawful M → (blocks others : List (List ℕ)) (next last : List ℕ) (ended : Type 0) → All (IsBlock M) blocks →
      All (IsBlock M) others →
      IsNext M next → IsRefused M last ended → concat blocks ++ next ≡ concat others ++ last → ⊥
  no_refused_next law blocks others next last ended takens goods (inr rest) refused same =
      no_refused blocks others next last ended takens goods rest refused same
  no_refused_next law blocks others next last ended takens goods (inl block) refused same =
      no_refused (blocks ++ next ∷ []) others [] last ended
      (All-append (IsBlock M) blocks (next ∷ []) takens (All-cons (IsBlock M) next [] block (All-nil (IsBlock M)))) goods
      (record { less = law.some; good = law.nothing_left }) refused (append-nil (concat (blocks ++ next ∷ [])) ∙ concat_push blocks next ∙ same)
