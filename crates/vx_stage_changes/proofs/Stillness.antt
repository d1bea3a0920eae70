-- What the house keeps of a group's disks, after a commit.
use Rattle.std.proofs.Common.{◌≡◌, ◌≢◌, ◌∙◌, ℕ, ◌==◌, List, [], ◌∷◌, ◌++◌, map, sym, ap, subst}
use Rattle.std.specs.List.{list_any}
use Rattle.vx_piece.specs.Seen.{Seen}
use Rattle.vx_copies.specs.Disks.{DiskSeen, disk_seen, CommitGoes}
use Rattle.vx_copies.specs.Lists.{AllOf, Each}
use Rattle.vx_copies.specs.declared.disk.Disk.{Disk}
use Rattle.vx_objects.specs.declared.config.Config.{Config}
use Rattle.vx_fronts.specs.Parted.{AreParted}
use Rattle.vx_fronts.proofs.Parted.{parted_committed}
use Rattle.vx_lending.specs.Public.{lent_pieces, still_pieces}
use Rattle.vx_house.specs.View.{AreSized, HaveSlots, AreRecorded, IsGroupWhole}
use Rattle.vx_house.specs.declared.house.Imported.{Imported}
use Rattle.vx_confdb.specs.Groups.{members}
use Rattle.vx_pages.specs.declared.local_piece.LocalPiece.{Ghosts}
use Rattle.vx_group_start.specs.Laying.{AreRunningVolumes, AreStuckVolumes}

-- disks with their devices after a commit
pub sized_now : (first last : ℕ) (text : List ℕ) (hs bs : List DiskSeen) → Each (CommitGoes first last text) hs bs → AreSized hs → AreSized bs
sized_now first last text [] [] goes sized = tt
sized_now first last text [] (b ∷ bs) goes sized = absurd goes
sized_now first last text (h ∷ hs) [] goes sized = absurd goes
sized_now first last text (h ∷ hs) (b ∷ bs) goes sized = (goes.0.kept.sectors ∙ sized.0 ∙ sym goes.0.size, sized_now first last text hs bs goes.1 sized.1)

-- the group's disks after a commit
module _ (first last : ℕ) (text : List ℕ) {P : Type 0} (see : P → Seen) where
  abbrev pub AllGo : List (Disk P) → List (Disk P) → Type 0
  AllGo ds es = Each (CommitGoes first last text) (map (disk_seen see) ds) (map (disk_seen see) es)

  pub slots_now : (ds es : List (Disk P)) → AllGo ds es → HaveSlots ds → HaveSlots es
  slots_now [] [] goes slots = tt
  slots_now [] (e ∷ es) goes slots = absurd goes
  slots_now (d ∷ ds) [] goes slots = absurd goes
  slots_now (d ∷ ds) (e ∷ es) goes slots = (all ds es goes.1 slots.0, slots_now ds es goes.1 slots.1)
    where
      all : (xs ys : List (Disk P)) → AllGo xs ys → AllOf (λ x. x.slot ≢ d.slot) xs → AllOf (λ y. y.slot ≢ e.slot) ys
      all [] [] on other = tt
      all [] (y ∷ ys) on other = absurd on
      all (x ∷ xs) [] on other = absurd on
      all (x ∷ xs) (y ∷ ys) on other = ((λ same. other.0 (sym on.0.slot ∙ same ∙ goes.0.slot)), all xs ys on.1 other.1)

  pub recorded_now : (config next : Config) → next.disks ≡ config.disks → (ds es : List (Disk P)) → AllGo ds es → AreRecorded config ds → AreRecorded next es
  recorded_now config next same [] [] goes recorded = tt
  recorded_now config next same [] (e ∷ es) goes recorded = absurd goes
  recorded_now config next same (d ∷ ds) [] goes recorded = absurd goes
  recorded_now config next same (d ∷ ds) (e ∷ es) goes recorded = (
    ap (λ l. list_any (λ r. r.slot == e.slot) l) same ∙ ap (λ n. list_any (λ r. r.slot == n) config.disks) goes.0.slot ∙ recorded.0,
    recorded_now config next same ds es goes.1 recorded.1,
  )

-- The devices of the imported group can be joined after a commit as before.
pub whole_now : {P : Type 0} {ghosts : Ghosts P} (see : P → Seen) (g g' : Imported P ghosts) (first last : ℕ) (text : List ℕ) → Each (CommitGoes first last text) (members see g.base) (members see g'.base) → g'.public ≡ g.public → IsGroupWhole see g → IsGroupWhole see g'
whole_now see g g' first last text goes same whole = record {
  parted = subst (λ p. AreParted (members see g'.base) (still_pieces see p ++ lent_pieces see p)) (sym same) (parted_committed first last text (members see g.base) (members see g'.base) (still_pieces see g.public ++ lent_pieces see g.public) goes whole.parted);
  volumes = subst (λ p. AreRunningVolumes see p.running.entries) (sym same) whole.volumes;
  stuck = subst (λ p. AreStuckVolumes see p.stuck.items) (sym same) whole.stuck;
}
