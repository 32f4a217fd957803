-- A datagram after both of its parts were written.
use Rattle.std.proofs.Common.{◌≡◌, ℕ, ◌+◌, ◌-◌, List, [], ◌++◌, length, take, drop, sym, ap, subst, ◌∙◌, arith, length-append, length-drop}
use Rattle.std.specs.Prelude.{Result, Ok}
use Rattle.std.proofs.lemmas.List.{append-nil}
use Rattle.std.proofs.Math.Seq.{take-append_seam, drop-append_seam}
use Rattle.std.proofs.Math.ListN.{drop_of_length-le}
use borrow.Rule.Slice.PartMut.{post_of}
use Rattle.rtp_packet.specs.declared.header.Header.{Header}
use Rattle.rtp_packet.specs.declared.packet.Packet.{Packet}
use Rattle.rtp_packet.specs.declared.packet.Refusal.{Refusal}
use Rattle.rtp_packet.specs.Packet.{packet_of}
use Rattle.rtp_session.specs.Outgoing.{Carries}

-- with the second part in the place of all that follows the first
abbrev pub after_both : List ℕ → List ℕ → List ℕ
after_both first second = take 12 first ++ (second ++ post_of 12 (length first - 12) first)

nothing_left : (first : List ℕ) → post_of 12 (length first - 12) first ≡ []
nothing_left first = drop_of_length-le (drop 12 first) (omega (arith, length-drop 12 first))

joined : (head payload old : List ℕ) → length head ≡ 12 → after_both (head ++ drop 12 old) payload ≡ head ++ payload
joined head payload old n =
    ap (λ (l : List ℕ). l ++ (payload ++ post_of 12 (length (head ++ drop 12 old) - 12) (head ++ drop 12 old)))
    (subst (λ (k : ℕ). take k (head ++ drop 12 old) ≡ head) n (take-append_seam head (drop 12 old)))
    ∙ ap (λ (l : List ℕ). head ++ (payload ++ l)) (nothing_left (head ++ drop 12 old)) ∙ ap (λ (l : List ℕ). head ++ l) (append-nil payload)

abbrev packet_until : Header → ℕ → Result Packet Refusal
packet_until h until = Ok (record { header = h; from = 12; until = until })

both : (head payload : List ℕ) (h : Header) → length head ≡ 12 → packet_of (head ++ payload) ≡ packet_until h (12 + length payload) →
    Carries (head ++ payload) h payload
both head payload h n read = record {
  read = read ∙ ap (packet_until h) (sym (length-append head payload ∙ ap (λ (k : ℕ). k + length payload) n));
  payload_is = subst (λ (k : ℕ). drop k (head ++ payload) ≡ payload) n (drop-append_seam head payload);
}

pub carried : (head first payload second old : List ℕ) (given h : Header) → length head ≡ 12 → first ≡ head → second ≡ payload → given ≡ h →
    packet_of (head ++ payload) ≡ Ok (record { header = given; from = 12; until = 12 + length payload }) →
    Carries (after_both (first ++ drop 12 old) second) h payload
carried head first payload second old given h n first_is second_is given_is read =
    subst (λ (f : List ℕ). Carries (after_both (f ++ drop 12 old) second) h payload) (sym first_is)
    (subst (λ (s : List ℕ). Carries (after_both (head ++ drop 12 old) s) h payload) (sym second_is)
    (subst (λ (xs : List ℕ). Carries xs h payload) (sym (joined head payload old n))
    (both head payload h n (subst (λ (x : Header). packet_of (head ++ payload) ≡ packet_until x (12 + length payload)) given_is read))))
