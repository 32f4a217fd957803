-- Whose packets are taken (RFC 3550, appendix A.1 and section 8.2).
use Rattle.std.specs.Prelude.{ℕ, Bool, false, ◌&&◌, if◌then◌else◌, ◌==◌, nat_lt, Option, Some, None}
use Rattle.rtp_packet.specs.Reception.{on}
use Rattle.rtp_buffer.specs.Watch.{back}
use Rattle.rtp_stream.specs.declared.source.Candidate.{Candidate}
use Rattle.rtp_stream.specs.declared.source.Sources.{Sources}
use Rattle.rtp_stream.specs.declared.source.Verdict.{Verdict}
use Rattle.rtp_stream.specs.declared.source.Verdict.TheVariants.{Heard, Begins, OnProbation}

-- none is heard yet
abbrev pub sources_home : Sources
sources_home = record { heard = None; candidate = None }

-- a source is heard from now on
abbrev pub hearing : ℕ → Sources
hearing source = record { heard = Some source; candidate = None }

-- the candidate is this source, and this is the number that it must bring
abbrev pub brings_the_next : Option Candidate → ℕ → ℕ → Bool
brings_the_next None source number = false
brings_the_next (Some candidate) source number = (candidate.source == source) && (candidate.number == number)

-- A source on probation keeps its place for so many ticks, 100 ms: so of several new ones at once, one is heard.
abbrev pub probation : ℕ
probation = 5

abbrev pub begun : ℕ → ℕ → ℕ → Candidate
begun source number tick = record { source = source; number = on 16 number 1; since = tick }

abbrev pub candidate_after : Option Candidate → ℕ → ℕ → ℕ → Candidate
candidate_after None source number tick = begun source number tick
candidate_after (Some candidate) source number tick =
    if candidate.source == source then record candidate { number = on 16 number 1 }
    else if nat_lt (back tick candidate.since) probation then candidate
    else begun source number tick

-- **The first source is heard at once. Another one is on probation (A.1) until it brings two packets in a row, and
-- takes over only if the present one is still then** (this project's profile): of two at once, one is heard.
abbrev pub judged_other : Sources → ℕ → ℕ → ℕ → Bool → Sources × Verdict
judged_other sources source number tick still =
    if brings_the_next sources.candidate source number && still then (hearing source, Begins)
    else (record sources { candidate = Some (candidate_after sources.candidate source number tick) }, OnProbation)

abbrev pub judged_by : Option ℕ → Sources → ℕ → ℕ → ℕ → Bool → Sources × Verdict
judged_by None sources source number tick still = (hearing source, Begins)
judged_by (Some present) sources source number tick still =
    if present == source then (sources, Heard) else judged_other sources source number tick still

abbrev pub judged : Sources → ℕ → ℕ → ℕ → Bool → Sources × Verdict
judged sources source number tick still = judged_by sources.heard sources source number tick still
