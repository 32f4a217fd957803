-- A packet of a source that isn't heard.
use Rattle.std.proofs.Common.{◌≡◌, ℕ, refl, sym, ap, ◌∙◌, inl, inr}
use Rattle.std.specs.Prelude.{Bool, true, false, if◌then◌else◌, ◌==◌, ◌&&◌, Option, Some, None}
use Rattle.std.proofs.lemmas.Bool.{cond-false, ne_eqb}
use Rattle.rtp_packet.specs.declared.header.Header.{Header}
use Rattle.rtp_stream.specs.declared.source.Candidate.{Candidate}
use Rattle.rtp_stream.specs.declared.source.Sources.{Sources}
use Rattle.rtp_stream.specs.declared.source.Verdict.{Verdict}
use Rattle.rtp_stream.specs.declared.source.Verdict.TheVariants.{OnProbation}
use Rattle.rtp_stream.specs.declared.stream.Stream.{Stream}
use Rattle.rtp_stream.specs.Sources.{brings_the_next, candidate_after, judged_by}
use Rattle.rtp_stream.specs.Stream.{judged_in}
use Rattle.rtp_session.specs.Incoming.{IsHeard}

-- the source is on probation, or another one still is
abbrev pub candidate_of : Sources → ℕ → ℕ → ℕ → Option Candidate
candidate_of sources source number tick = Some (candidate_after sources.candidate source number tick)

abbrev pub waiting : Sources → ℕ → ℕ → ℕ → Sources × Verdict
waiting sources source number tick = (record sources { candidate = candidate_of sources source number tick }, OnProbation)

not_both : (a b : Bool) (x y : Sources × Verdict) → (a ≡ true → b ≡ true → ⊥) → (if a && b then x else y) ≡ y
not_both true true x y n = absurd (n refl refl)
not_both true false x y n = refl
not_both false b x y n = refl

by_heard : (heard : Option ℕ) (sources : Sources) (source number tick : ℕ) (still : Bool) → (heard ≡ Some source → ⊥) → (heard ≡ None → ⊥) →
    (brings_the_next sources.candidate source number ≡ true → still ≡ true → ⊥) → judged_by heard sources source number tick still ≡ waiting sources source number tick
by_heard None sources source number tick still other some next = absurd (some refl)
by_heard (Some present) sources source number tick still other some next =
    cond-false (present == source) _ _ (ne_eqb present source (λ e. other (ap (λ (k : ℕ). Some k) e)))
    ∙ not_both (brings_the_next sources.candidate source number) still _ _ next

pub stranger : {N : ℕ} → (stream : Stream N) (header : Header) (tick : ℕ) → (IsHeard stream header tick → ⊥) →
    judged_in stream header tick ≡ waiting stream.sources header.source header.sequence_number tick
stranger stream header tick n =
    by_heard stream.sources.heard stream.sources header.source header.sequence_number tick _ (λ e. n (inl e)) (λ e. n (inr (inl e))) (λ a b. n (inr (inr (a, b))))

-- only the candidate is another
pub kept : {N : ℕ} → (old new : Stream N) (candidate : Option Candidate) → new ≡ record old { sources = new.sources } →
    new.sources ≡ record old.sources { candidate = candidate } →
    new ≡ record old { sources = record old.sources { candidate = new.sources.candidate } }
kept old new candidate e s =
    e ∙ ap (λ (x : Sources). record old { sources = x })
    (s ∙ ap (λ (k : Option Candidate). record old.sources { candidate = k }) (sym (ap (λ (x : Sources). x.candidate) s)))
