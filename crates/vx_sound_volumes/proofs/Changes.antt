-- Changes of the imported group that are committed, by which no disk joins.
use Rattle.std.proofs.Common.{◌≡◌, ◌∙◌, ℕ, false, List, [], ◌++◌, sym, ap, subst}
use Rattle.std.proofs.lemmas.List.{append-nil}
use Rattle.vx_base.specs.Named.{Word}
use Rattle.vx_config_parts.specs.declared.vol.Vol.{Vol}
use Rattle.vx_objects.specs.declared.edit.Edit.{Edit}
use Rattle.vx_image.proofs.PlexMembers.{IsIn}
use Rattle.vx_state_edits.specs.Edits.{is_new}
use Rattle.vx_answers.specs.declared.answer.End.{End}
use Rattle.vx_moments.specs.Commit.{IsCommitted, IsStopped, Writing}
use Rattle.vx_moments.specs.Moment.{Moment}
use Rattle.vx_moments.specs.Group.{HaveOwnDevices}
use Rattle.vx_stages.specs.Ends.{IsChange}
use Rattle.vx_group_edits.specs.Stays.{EachStays}
use Rattle.vx_sound_volumes.proofs.Commits.{commit_kept, commit_stops}
use Rattle.vx_sound_volumes.proofs.Parts.{Keeps, some_same}

pub none_in : {A : Type 0} {X : Type 0} (xs : List X) (x : X) → xs ≡ [] → IsIn xs x → A
none_in xs x none one = absurd (subst (λ ys. IsIn ys x) none one)

module _ (place : ℕ) (P : Word → Type 0) (edits : List Edit) (x : Writing) (old : Moment) (is : IsChange edits old.world x) (k : Keeps place P old.world) where
  pub change_kept : (These : Vol → Type 0) (new : Moment) → IsCommitted x old new → EachStays These x.group.config x.config →
      ((v : Vol) → IsIn x.config.volumes v → P v.name → is_new v.state ≡ false → (u : Vol) × IsIn x.group.config.volumes u × (u.name ≡ v.name) × These u) → Keeps place P new.world
  change_kept These new committed stays back =
      commit_kept x old new committed P These stays back (λ j one. none_in x.joiners j is.joiners one) place is.group
      (subst HaveOwnDevices (sym (ap (λ js. x.group.members ++ js) is.joiners ∙ append-nil x.group.members)) (k.disks x.group is.group).own) (λ j one. none_in x.joiners j is.joiners one) k

  pub change_stops : (end : End) (new : Moment) → IsStopped x old end new → Keeps place P new.world
  change_stops end new stopped = commit_stops place P x old end new (λ g here. some_same g x.group (sym here ∙ is.group)) stopped k
