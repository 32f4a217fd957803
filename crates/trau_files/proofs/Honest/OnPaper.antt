-- The folder on paper is honest.
use Rattle.std.proofs.Common.{◌≡◌, Bool, true, inl, inr, ◌∙◌}
use Rattle.trau_files.specs.declared.trunk.bays.Access.{Access}
use Rattle.trau_files.specs.declared.trunk.bays.Access.TheVariants.{Reading, Writing}
use Rattle.trau_files.specs.Files.{options_for}
use Rattle.trau_files.specs.Honest.{IsHonest}
use Rattle.trau_files.specs.OnPaper.{on_paper}

makes : (access : Access) (may : Bool) → (options_for access may).create ≡ true → may ≡ true
makes Reading may is = let no : ⊥ = cc in absurd no
makes Writing may is = is

pub honest_on_paper : IsHonest on_paper
honest_on_paper = record {
  disk = λ d. d.disk;
  place = λ p. p;
  size = λ d f. d.size f;
  opens = λ old new access may name file one. record {
    start = one.start;
    leads = one.leads;
    from = elim one.from [ inl led ↦ inl led | inr fresh ↦ inr (makes access may fresh.0, fresh.1) ];
    names = one.names;
    no_others = one.no_others;
    octets = one.octets;
  };
  opens_none = λ old new access may name e one. one;
  tells = λ file metadata one. one.0;
  identifies = λ file metadata f one is. is ∙ one.1;
  goes = λ old new at n one. one;
  empties = λ before after old new one. one;
  empties_none = λ before after old new e one. one;
  gives = λ d old new n buf one. one;
  gives_none = λ d old new e buf one. one;
  takes = λ before after old new n bytes one within. one;
  takes_none = λ before after old new e bytes one. one;
  closes = λ before after file one. one;
  removes = λ before after name one. one;
}
