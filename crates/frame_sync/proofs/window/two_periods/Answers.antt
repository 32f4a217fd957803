use Rattle.std.proofs.Common.{◌≡◌, ◌++◌, ◌<◌, ℕ, List, [], length, take, drop, replicate, length-append, length-drop, refl, sym, subst, arith}
use Rattle.std.proofs.lemmas.List.{take_at, drop_all, append-nil}
use Rattle.std.proofs.lemmas.List.Elements.{All-append}
use borrow.Rule.Slice.PartMut.{put_mid}
use Rattle.trau_bits.specs.Bits.{AreBits, bits_of}
use Rattle.frame_sync.proofs.window.two_periods.Goals as goal

-- both halves of a list are written, one after another
both : (xs one two : List ℕ) → length xs ≡ 640 → length one ≡ 320 → put_mid 320 320 (one ++ drop 320 xs) two ≡ one ++ two
both xs one two l h =
    let front : take 320 (one ++ drop 320 xs) ≡ one = take_at one (drop 320 xs) 320 h in
    let none : drop 320 (drop 320 (one ++ drop 320 xs)) ≡ [] =
    drop_all 320 (drop 320 (one ++ drop 320 xs)) (omega (arith, length-drop 320 (one ++ drop 320 xs), length-append one (drop 320 xs), length-drop 320 xs)) in
    rw (front, none, append-nil) refl

pub returns-clause-value : goal.returns-clause-value
returns-clause-value c =
    rw (c.copy_from_slice.ensures.after, c.unpack.ensures.bits) (both (replicate 640 0) c.args.last.now (bits_of c.args.octets.now) refl c.told-last)

pub returns-clause-are_bits : goal.returns-clause-are_bits
returns-clause-are_bits c = λ h.
    subst AreBits (sym (returns-clause-value c)) (All-append (λ bit. bit < 2) c.args.last.now (bits_of c.args.octets.now) h
    (subst AreBits c.unpack.ensures.bits c.unpack.ensures.are_bits))
