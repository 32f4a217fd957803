use Rattle.std.proofs.Common.{◌≡◌, ℕ, ℤ, ◌+◌, ◌-◌, ◌<◌, ◌≤◌, List, [], ◌++◌, take, drop, refl, sym, ap, ◌∙◌, length, get_or, arith}
use Rattle.std.proofs.lemmas.List.{same_lists, get_or-take, get_or-drop, length-take-le, length-drop, take_all, drop_all, append-nil}
use Rattle.std.proofs.lemmas.Slice.{put_mid-paste}
use borrow.Rule.Slice.PartMut.{put_mid}
use Rattle.fr_long.proofs.memory.remember.Goals as goal

-- 80 samples that moved down by 40, and 40 new ones after them
moved : (old xs ys : List ℤ) → length old ≡ 120 → length xs ≡ 120 → length ys ≡ 40 → ((k : ℕ) (d : ℤ) → k < 80 → get_or xs k d ≡ get_or old (40 + (k - 0)) d) →
    put_mid 80 40 xs ys ≡ drop 40 old ++ ys
moved old xs ys lo lx ly m =
    let kept : 80 ≤ length xs = omega arith in
    let none : drop (80 + 40) xs ≡ [] = drop_all (80 + 40) xs (omega arith) in
    let all : take 40 ys ≡ ys = take_all 40 ys (omega arith) in
    let lengths : length (take 80 xs) ≡ length (drop 40 old) = omega (arith, length-take-le 80 xs kept, length-drop 40 old) in
    let low : take 80 xs ≡ drop 40 old =
    same_lists (take 80 xs) (drop 40 old) lengths
    (λ k d h.
    let below : k < 80 = omega (arith, length-take-le 80 xs kept) in
    let place : 40 + (k - 0) ≡ 40 + k = omega arith in
    get_or-take 80 xs k d below ∙ m k d below ∙ ap (λ i. get_or old i d) place ∙ sym (get_or-drop 40 old k d)) in
    put_mid-paste 80 40 xs ys ys 40 refl refl (sym ly) ∙ rw (all, none, low) (append-nil (drop 40 old ++ ys))

pub returns : goal.returns
returns c =
    rw c.copy_from_slice.ensures.after
    (moved c.args.residuals.now c.copy_within.new.self c.args.block.now c.told-residuals
    (omega (arith, c.copy_within.ensures.len, c.told-residuals)) c.told-block
    (λ k d h. c.copy_within.ensures.by_index.0 k d (omega arith) (omega (arith, c.told-residuals))))
