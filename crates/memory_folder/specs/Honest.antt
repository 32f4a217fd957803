-- The folder in memory is an honest one (this project's profile).
use Rattle.std.proofs.Common.{inl, inr, ◌∙◌}
use Rattle.trau_files.specs.Honest.{IsHonest}
use Rattle.memory_folder.specs.Memory.{disk_of, in_memory, place_of}
use Rattle.memory_folder.specs.Sizes.{is_small, may_make}

abbrev pub honest_in_memory : IsHonest in_memory
honest_in_memory = record {
  disk = disk_of;
  place = place_of;
  size = is_small;
  opens = λ old new access may name file one. record {
    start = one.start;
    leads = one.leads;
    from = elim one.from [ inl led ↦ inl led | inr fresh ↦ inr (may_make access may fresh.0, fresh.1) ];
    names = one.names;
    no_others = one.no_others;
    octets = one.octets;
  };
  opens_none = λ old new access may name e one. one;
  tells = λ file metadata one. one.0;
  identifies = λ file metadata f one is. is ∙ one.1;
  goes = λ old new at n one. one;
  empties = λ before after old new one. one;
  empties_none = λ before after old new e one. one;
  gives = λ d old new n buf one. one;
  gives_none = λ d old new e buf one. one;
  takes = λ before after old new n bytes one within. one;
  takes_none = λ before after old new e bytes one. one;
  closes = λ before after file one. one;
  removes = λ before after name one. one;
}
