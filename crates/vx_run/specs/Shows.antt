-- What a house can show.
use Rattle.std.specs.Prelude.{◌≡◌, List, [], ◌∷◌, Option, MatchOption, ℕ}
use Rattle.vx_base.specs.Named.{Word}
use Rattle.vx_piece.specs.Seen.{Seen}
use Rattle.vx_pages.specs.declared.local_piece.LocalPiece.{Ghosts}
use Rattle.vx_copies.specs.Disks.{good_mask}
use Rattle.vx_confdb.specs.Groups.{IsGroup, members}
use Rattle.vx_objects.specs.declared.config.Config.{Config}
use Rattle.vx_objects.specs.Config.{objects_of}
use Rattle.vx_print.specs.Shown.{IsPrinted}
use Rattle.vx_hierarchy.specs.Hierarchy.{IsHierarchy}
use Rattle.vx_hierarchy.specs.Rows.{is_started, stays_held}
use Rattle.vx_answers.specs.declared.answer.View.{View}
use Rattle.vx_answers.specs.declared.answer.View.TheVariants.{Text}
use Rattle.vx_plans.specs.declared.stages.Finish.{Finish}
use Rattle.vx_plans.specs.declared.stages.Finish.TheVariants.{Hierarchy, Nothing, Records}
use Rattle.vx_house.specs.declared.house.House.{House}
use Rattle.vx_house.specs.declared.house.Imported.{Imported}
use Rattle.vx_run.specs.Lent.{lent_plexes}

-- the group is imported, where something of it is to be shown
abbrev pub CanShow : {P : Type 0} {ghosts : Ghosts P} → (P → Seen) → Finish → House P ghosts → Type 0
CanShow see Nothing h = Unit {0}
CanShow see (Records vol) h = MatchOption h.group ⊥ (λ g. Unit {0})
CanShow see (Hierarchy vol) h = MatchOption h.group ⊥ (λ g. IsGroup see g.base)

-- the text is that of the records
abbrev pub ShowsOf : Option Word → Config → List ℕ → Type 0
ShowsOf vol config text = IsPrinted vol (objects_of config) [] text

-- the text is that of the volumes: those are started that run, and what a running volume has the pieces of is held
abbrev pub ShowsVolumes : {P : Type 0} {ghosts : Ghosts P} → (P → Seen) → Option Word → Imported P ghosts → List ℕ → Type 0
ShowsVolumes see vol g text =
    IsHierarchy g.config (stays_held g.config (good_mask (members see g.base)) (lent_plexes g.config g.public)) (is_started g.public.running) vol [] text

-- what the house shows at the end
abbrev pub ShowsIn : {P : Type 0} {ghosts : Ghosts P} → (P → Seen) → Finish → House P ghosts → List View → Type 0
ShowsIn see Nothing h views = views ≡ []
ShowsIn see (Records vol) h views = MatchOption h.group ⊥ (λ g. (text : List ℕ) × (views ≡ Text text ∷ []) × ShowsOf vol g.config text)
ShowsIn see (Hierarchy vol) h views = MatchOption h.group ⊥ (λ g. (text : List ℕ) × (views ≡ Text text ∷ []) × ShowsVolumes see vol g text)

-- something is to be shown
abbrev pub ShowsText : Finish → Type 0
ShowsText Nothing = ⊥
ShowsText other = Unit {0}
