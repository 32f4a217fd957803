-- What is read of the first 316 bits of a frame, by the number in C1 to C5.
use Rattle.std.proofs.Common.{◌≡◌, ℕ, ◌*◌, true, Some, None, List, refl, sym, ap, ◌∙◌, arith}
use Rattle.std.specs.Prelude.{◌==◌}
use Rattle.std.proofs.lemmas.Bool.{ne_eqb}
use Rattle.trau_frame.specs.declared.frames.DownFrame.TheVariants.{Idle, Speech}
use Rattle.trau_frame.specs.Role.{Control, bit_with}
use Rattle.trau_frame.specs.Frame.{Synced, number_in, data_of}
use Rattle.trau_frame.specs.Match.{bit_in, is_match, frame_at}
use Rattle.trau_frame.proofs.Places.{synced}
use Rattle.trau_frame.proofs.Matches.{match_zeros, match_ones, get_or-frame_at}
use Rattle.ccu_end.specs.Read.{frame_by, down_frame_in, Alike}
use Rattle.ccu_end.proofs.Reading.{read-alike}

-- bits like those of a match have the sync pattern
pub alike-synced : (w bits : List ℕ) (o : ℕ) → Alike bits (frame_at (bit_in w) o) → is_match (bit_in w) o ≡ true → Synced bits
alike-synced w bits o h m =
    synced bits
    (λ i l. h i (omega arith) ∙ get_or-frame_at (bit_in w) o i 0 (omega arith) ∙ match_zeros (bit_in w) o m i l)
    (λ row l r. h (16 * row) (omega arith) ∙ get_or-frame_at (bit_in w) o (16 * row) 0 (omega arith) ∙ match_ones (bit_in w) o m row l r)

-- what the pattern says is what the frame says: idle, speech or neither
said-by : (bits : List ℕ) (n : ℕ) → n ≡ number_in bits 1 5 → frame_by n bits ≡ down_frame_in bits
said-by bits n e = ap (λ k. frame_by k bits) e

pub said-idle : (w bits : List ℕ) (o n : ℕ) → Alike bits (frame_at (bit_in w) o) → n ≡ number_in bits 1 5 → n ≡ 14 →
    Some Idle ≡ down_frame_in (frame_at (bit_in w) o)
said-idle w bits o n h e is = ap (λ k. frame_by k bits) (sym is) ∙ said-by bits n e ∙ read-alike bits (frame_at (bit_in w) o) h

pub said-speech : (w bits d : List ℕ) (o n sp : ℕ) → Alike bits (frame_at (bit_in w) o) → n ≡ number_in bits 1 5 → n ≡ 28 → d ≡ data_of bits →
    sp ≡ bit_with bits (Control 16) → Some (Speech d (sp == 1)) ≡ down_frame_in (frame_at (bit_in w) o)
said-speech w bits d o n sp h e is same_data same_sp =
    ap (λ x. Some (Speech x (sp == 1))) same_data ∙
    ap (λ b. Some (Speech (data_of bits) (b == 1))) same_sp ∙
    ap (λ k. frame_by k bits) (sym is) ∙ said-by bits n e ∙ read-alike bits (frame_at (bit_in w) o) h

pub said-neither : (w bits : List ℕ) (o n : ℕ) → Alike bits (frame_at (bit_in w) o) → n ≡ number_in bits 1 5 → (n ≡ 14 → ⊥) → (n ≡ 28 → ⊥) →
    None ≡ down_frame_in (frame_at (bit_in w) o)
said-neither w bits o n h e i s =
    let by : None ≡ frame_by n bits = rw (ne_eqb n 14 i, ne_eqb n 28 s) refl in
    by ∙ said-by bits n e ∙ read-alike bits (frame_at (bit_in w) o) h
