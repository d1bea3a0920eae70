-- Whether the texts of the commits are short enough, by the longest of them.
use Rattle.std.proofs.Common.{◌≡◌, ℕ, ◌<◌, ◌≤◌, Option, Some, inl, inr, List, ap, refl, subst, arith}
use Rattle.vx_base.specs.Named.{Word}
use Rattle.vx_pages.specs.declared.local_piece.LocalPiece.{Ghosts}
use Rattle.vx_piece.specs.Seen.{Seen}
use Rattle.vx_objects.specs.declared.config.Config.{Config}
use Rattle.vx_answers.specs.declared.answer.End.TheVariants as ends
use Rattle.vx_answers.specs.declared.refusal.Refusal.TheVariants as refusal
use Rattle.vx_house.specs.Plain.{plain}
use Rattle.vx_house.specs.View.{group_of}
use Rattle.vx_house.specs.declared.house.House.{House}
use Rattle.vx_house.specs.declared.house.Imported.{Imported}
use Rattle.vx_house.specs.declared.stop.Stop.TheVariants as stops
use Rattle.vx_recovery.specs.Edits.{AreShort, AreTooLong}
use Rattle.vx_recovery.specs.Going.{at_rest}
use Rattle.vx_stage_recovery.specs.Names.{AreNames}
use Rattle.vx_stage_recovery.specs.Planning.{Fits, IsUnfit}
use Rattle.vx_stage_recovery.specs.Texts.{IsLongestOf}
use Rattle.vx_stage_recovery.proofs.Longest.{at_most}
use Rattle.vx_stage_recovery.proofs.Naming.{names_of_group}

pub short_from : (names : List Word) (c : Config) (bytes : ℕ) → IsLongestOf names c bytes → bytes ≤ 522240 → AreShort names c
short_from names c bytes (configs, commits, is) few = record {
  configs = configs;
  commits = commits;
  short = λ next text within printed. omega (arith, at_most configs bytes is next text within printed, few);
}

pub long_from : (names : List Word) (c : Config) (bytes : ℕ) → IsLongestOf names c bytes → 522240 < bytes → AreTooLong names c bytes
long_from names c bytes (configs, commits, inl (none, zero_is)) long = absurd (omega (arith, zero_is, long))
long_from names c bytes (configs, commits, inr longest) long = record { configs = configs; commits = commits; longest = longest; long = long }

-- of the imported group these are the names, those of them that do not run, and how long the longest text is
module _ {P : Type 0} {ghosts : Ghosts P} (see : P → Seen) (h : House P ghosts) (i : Imported P ghosts) (is : h.group ≡ Some i) (vol : Option Word) (names rest : List Word) (named : AreNames vol i.config names) (rests : rest ≡ at_rest (plain see h) names) (bytes : ℕ) (longest : IsLongestOf rest i.config bytes) where
  of_names : IsLongestOf (at_rest (plain see h) names) i.config bytes
  of_names = subst (λ xs. IsLongestOf xs i.config bytes) rests longest

  pub fits : bytes ≤ 522240 → Fits vol (plain see h) names
  fits few = (_, ap (group_of see) is, names_of_group vol _ names named, short_from (at_rest (plain see h) names) i.config bytes of_names few)

  pub unfit : 522240 < bytes → IsUnfit vol (plain see h) (stops.Ended (ends.Refused (refusal.TooLong bytes)))
  unfit long = (_, ap (group_of see) is, names, names_of_group vol _ names named, (bytes, long_from (at_rest (plain see h) names) i.config bytes of_names long, refl))
