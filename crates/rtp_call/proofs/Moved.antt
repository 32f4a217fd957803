-- A stream whose jitter buffer and counts alone have changed.
use Rattle.std.proofs.Common.{◌≡◌, ℕ, sym, ap, ◌∙◌}
use Rattle.std.specs.Prelude.{Bool}
use Rattle.rtp_buffer.specs.declared.buffer.Buffer.{Buffer}
use Rattle.rtp_session.specs.declared.counts.Counts.{Counts}
use Rattle.rtp_session.specs.declared.incoming.Incoming.{Incoming}
use Rattle.rtp_session.specs.Playing.{counts_after}

abbrev pub with : {N : ℕ} → Incoming N → Counts → Buffer N → Incoming N
with incoming counts buffer = record incoming { counts = counts; stream = record incoming.stream { buffer = buffer } }

-- three times in a row
pub only_buffer : {N : ℕ} → (old prepared moved new : Incoming N) → prepared ≡ with old old.counts prepared.stream.buffer →
    moved ≡ with prepared moved.counts moved.stream.buffer → new ≡ with moved moved.counts new.stream.buffer → new ≡ with old new.counts new.stream.buffer
only_buffer {N} old prepared moved new first second third =
    let both : moved ≡ with old moved.counts moved.stream.buffer =
    second ∙ ap (λ (x : Incoming N). with x moved.counts moved.stream.buffer) first in
    third ∙ ap (λ (x : Incoming N). with x moved.counts new.stream.buffer) both
    ∙ ap (λ (c : Counts). with old c new.stream.buffer) (sym (ap (λ (x : Incoming N). x.counts) third))

pub counts_moved : {N : ℕ} → (slips : Bool) (old prepared moved new : Incoming N) → prepared ≡ with old old.counts prepared.stream.buffer →
    moved.counts ≡ counts_after slips prepared.stream.buffer prepared.counts → new ≡ with moved moved.counts new.stream.buffer →
    new.counts ≡ counts_after slips prepared.stream.buffer old.counts
counts_moved {N} slips old prepared moved new first second third =
    ap (λ (x : Incoming N). x.counts) third ∙ second
    ∙ ap (λ (c : Counts). counts_after slips prepared.stream.buffer c) (ap (λ (x : Incoming N). x.counts) first)
