use Rattle.std.proofs.Common.{◌≡◌, ◌++◌, ℕ, List, [], length, take, drop, replicate, length-append, length-drop, refl, arith}
use Rattle.std.proofs.lemmas.List.{take_at, drop_all, append-nil}
use borrow.Rule.Slice.PartMut.{put_mid}
use Rattle.gsm_frame.proofs.pair.joined.Goals as goal

-- both halves of a list are written, one after another
both : (xs one two : List ℕ) → length xs ≡ 520 → length one ≡ 260 → put_mid 260 260 (one ++ drop 260 xs) two ≡ one ++ two
both xs one two l h =
    let front : take 260 (one ++ drop 260 xs) ≡ one = take_at one (drop 260 xs) 260 h in
    let none : drop 260 (drop 260 (one ++ drop 260 xs)) ≡ [] =
    drop_all 260 (drop 260 (one ++ drop 260 xs)) (omega (arith, length-drop 260 (one ++ drop 260 xs), length-append one (drop 260 xs), length-drop 260 xs)) in
    rw (front, none, append-nil) refl

pub returns : goal.returns
returns c =
    rw (c.copy_from_slice.ensures.after, c.copy_from_slice-2.ensures.after) (both (replicate 520 0) c.args.front.now c.args.back.now refl c.told-front)
