-- What the files of an honest folder hold, after one line's file was written, or a line gave octets.
use Rattle.std.proofs.Common.{◌≡◌, ◌≢◌, ◌∙◌, ◌<◌, ℕ, List, length, take, Option, None, Some, IfSome, IsSomeAnd}
use Rattle.std.proofs.Common.{ap, inl, inr, refl, subst, sym}
use Rattle.trau_io.specs.declared.line.Side.{Side}
use Rattle.trau_io.specs.Indices.{index_of_line}
use Rattle.trau_io.proofs.Tables.{same_line}
use Rattle.trau_files.specs.declared.trunk.claims.Claim.{Claim}
use Rattle.trau_files.specs.declared.trunk.bays.Access.TheVariants.{Reading, Writing}
use Rattle.trau_files.specs.Claims.{AreApart, claim_at}
use Rattle.trau_files.specs.Files.{file_name}
use Rattle.trau_files.specs.Disk.{Changes, Disk}
use Rattle.trau_files.specs.Holds.{FilesHold, Gains, IsLine}
use Rattle.trau_files.proofs.Cases.{same_or_other}

-- the octets of a line's file, which is written, changed
pub changed : (start now new : Disk) (claims : List (Option Claim)) (given put put' : ℕ → Side → List ℕ) (call : ℕ) (side : Side) (c : Claim) (more : List ℕ) →
    FilesHold start now claims given put → AreApart claims → claim_at claims (index_of_line call side) ≡ Some c → c.access ≡ Writing →
    Changes now new c.file (put' call side) → Gains put put' call side more → FilesHold start new claims given put'
changed start now new claims given put put' call side c more files apart there writes changes gains = record {
  names = λ name f led. changes.names name ∙ files.names name f led;
  newly_led = λ name f none leads. files.newly_led name f none (sym (changes.names name) ∙ leads);
  unwritten = λ f none. changes.others f (λ e. none (index_of_line call side) c there writes (sym e)) ∙ files.unwritten f none;
  lines = λ c' s'. elim (same_or_other (index_of_line c' s') (index_of_line call side)) [
    | inl same ↦ let line = same_line c' call s' side same in
        subst (λ (x : ℕ). IsLine start new (claim_at claims (index_of_line x s')) (file_name x s') (given x s') (put' x s')) (sym line.0)
        (subst (λ (x : Side). IsLine start new (claim_at claims (index_of_line call x)) (file_name call x) (given call x) (put' call x)) (sym line.1) this)
    | inr other ↦ that c' s' other (claim_at claims (index_of_line c' s')) refl (files.lines c' s')
  ];
}
  where
    this : IsLine start new (claim_at claims (index_of_line call side)) (file_name call side) (given call side) (put' call side)
    this = subst (λ (x : Option Claim). IsLine start new x (file_name call side) (given call side) (put' call side)) (sym there) (record {
      leads = changes.names (file_name call side)
          ∙ subst (λ (x : Option Claim). IfSome x (λ d. now.file_of (file_name call side) ≡ Some d.file)) there (files.lines call side).leads;
      given = subst (λ (x : Option Claim). 0 < length (given call side) →
          IsSomeAnd x (λ d. d.access ≡ Reading → given call side ≡ take (length (given call side)) (start.octets d.file))) there (files.lines call side).given;
      put = λ some. (writes, changes.this);
      written = λ _. inl changes.this;
    })

    same_put : (c' : ℕ) (s' : Side) → index_of_line c' s' ≢ index_of_line call side → put' c' s' ≡ put c' s'
    same_put c' s' other = gains.others c' s' (λ c s. other (ap (λ x. index_of_line x s') c ∙ ap (index_of_line call) s))

    that : (c' : ℕ) (s' : Side) → index_of_line c' s' ≢ index_of_line call side → (x : Option Claim) → claim_at claims (index_of_line c' s') ≡ x →
        IsLine start now (claim_at claims (index_of_line c' s')) (file_name c' s') (given c' s') (put c' s') →
        IsLine start new (claim_at claims (index_of_line c' s')) (file_name c' s') (given c' s') (put' c' s')
    that c' s' other None is line = rw (is, same_put c' s' other) (record { leads = tt; given = rw is at line.given; put = rw is at line.put; written = tt })
    that c' s' other (Some d) is line =
        let before : IsLine start now (Some d) (file_name c' s') (given c' s') (put c' s') = rw is at line in
        rw (is, same_put c' s' other) (record {
          leads = changes.names (file_name c' s') ∙ before.leads;
          given = before.given;
          put = λ some. ((before.put some).0, changes.others d.file (λ e. not_shared d is other e) ∙ (before.put some).1);
          written = λ w. elim (before.written w) [
            | inl took ↦ inl (changes.others d.file (λ e. not_shared d is other e) ∙ took)
            | inr as_before ↦ inr (as_before.0, changes.others d.file (λ e. not_shared d is other e) ∙ as_before.1)
          ];
        })
      where
        not_shared : (d : Claim) → claim_at claims (index_of_line c' s') ≡ Some d → index_of_line c' s' ≢ index_of_line call side → d.file ≡ c.file → ⊥
        not_shared d is other e =
            let both = apart (index_of_line c' s') (index_of_line call side) d c is there other e in
            let never : ⊥ = cc in never

-- a line gave octets
pub read_on : (start now : Disk) (claims : List (Option Claim)) (given given' put : ℕ → Side → List ℕ) (call : ℕ) (side : Side) (c : Claim) (more : List ℕ) →
    FilesHold start now claims given put → claim_at claims (index_of_line call side) ≡ Some c →
    (c.access ≡ Reading → given' call side ≡ take (length (given' call side)) (start.octets c.file)) → Gains given given' call side more →
    FilesHold start now claims given' put
read_on start now claims given given' put call side c more files there gave gains = record {
  names = files.names;
  newly_led = files.newly_led;
  unwritten = files.unwritten;
  lines = λ c' s'. elim (same_or_other (index_of_line c' s') (index_of_line call side)) [
    | inl same ↦ let line = same_line c' call s' side same in
        subst (λ (x : ℕ). IsLine start now (claim_at claims (index_of_line x s')) (file_name x s') (given' x s') (put x s')) (sym line.0)
        (subst (λ (x : Side). IsLine start now (claim_at claims (index_of_line call x)) (file_name call x) (given' call x) (put call x)) (sym line.1)
        (record { leads = (files.lines call side).leads; given = λ some. rw there gave; put = (files.lines call side).put; written = (files.lines call side).written }))
    | inr other ↦ subst (λ (x : List ℕ). IsLine start now (claim_at claims (index_of_line c' s')) (file_name c' s') x (put c' s'))
        (sym (gains.others c' s' (λ c s. other (ap (λ x. index_of_line x s') c ∙ ap (index_of_line call) s)))) (files.lines c' s')
  ];
}
