-- For crates above: whole periods before a round don't change which line lacks octets in it (`lack_shifts`).
-- A call's end in a round is its end by the whole lines.
use Rattle.std.proofs.Common.{◌≡◌, sym, ◌∙◌, ℕ, ◌+◌, ◌*◌, ◌<◌, ◌≤◌, Bool, arith, inl, inr}
use Rattle.std.specs.Prelude.{if◌then◌else◌, nat_lt}
use Rattle.std.proofs.lemmas.Bool.{lt-ltb, le-ltb, cases_lt}
use Rattle.trau_io.specs.declared.line.Side.TheVariants.{Up, Pcm}
use Rattle.trau_io.specs.declared.ends.Cause.TheVariants.{End, Fault}
use Rattle.switchboard.specs.Ends.{Given, lack_of}
use Rattle.round_lines.specs.Shifts.{with_periods}

lack_by : (t s : Bool) (g : Given) (m n p q : ℕ) → t ≡ s → m ≡ n → p ≡ q →
    (if t then (if g.up_failed then Fault Up else End Up m) else if g.pcm_failed then Fault Pcm else End Pcm p) ≡
    (if s then (if g.up_failed then Fault Up else End Up n) else if g.pcm_failed then Fault Pcm else End Pcm q)
lack_by t s g m n p q e f h = cc

same_lt : (a b c d : ℕ) → (a < b → c < d) → (b ≤ a → d ≤ c) → nat_lt a b ≡ nat_lt c d
same_lt a b c d f h = elim (cases_lt a b) [ inl l ↦ lt-ltb a b l ∙ sym (lt-ltb c d (f l)) | inr l ↦ le-ltb a b l ∙ sym (le-ltb c d (h l)) ]

-- the cause of a call's end stays the same
pub lack_shifts : (k n : ℕ) (g : Given) → lack_of (k + n) (with_periods k g) ≡ lack_of n g
lack_shifts k n g =
    lack_by _ _ g _ _ _ _ (same_lt (40 * k + g.up) (40 * (k + n + 1)) g.up (40 * (n + 1)) (λ l. omega arith) (λ l. omega arith)) (omega arith) (omega arith)
