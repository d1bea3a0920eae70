-- A recovery of volumes keeps the history of each that runs, and begins one over the bytes of each volume that it starts or has healed.
use Rattle.std.proofs.Common.{◌≡◌, ◌∙◌, ℕ, List, [], ◌∷◌, Option, Some, refl, sym, ap, subst, inl, inr}
use Rattle.vx_base.specs.Named.{Word, put}
use Rattle.vx_config_parts.specs.declared.vol.Vol.{Vol}
use Rattle.vx_image.specs.Meaning.{candidates_read}
use Rattle.vx_answers.specs.declared.answer.End.{End}
use Rattle.vx_answers.specs.declared.answer.View.{View}
use Rattle.vx_moments.specs.Group.{image_on}
use Rattle.vx_moments.specs.Moment.{Moment}
use Rattle.vx_moments.specs.World.{Group, World}
use Rattle.vx_stages.specs.Starting.{volume_started}
use Rattle.vx_recovery.specs.Going.{Begin, Heal, Need, Pass, Recovers, Sees, SeesOne, need_of}
use Rattle.vx_recovery.specs.Healing.{IsHealed}
use Rattle.vx_recovery.specs.Recovering.{IsRecovered, IsRecoveryBegun, RecoveryStops, StopsHealed}
use Rattle.vx_plans.specs.Recoveries.{HasComeTo, HasSeen}
use Rattle.vx_plans.proofs.Recoveries.{clean_seen, first_seen, healed_seen, pass_seen}
use Rattle.vx_laws.specs.Histories.{HaveHistories}
use Rattle.vx_laws.proofs.Lives.{Holding, Reading, put_history, same_volumes}
use Rattle.vx_laws.proofs.Runs.{volumes_of}
use Rattle.vx_laws.proofs.Starts.{IsRead, found_named, start_kept, started_history}

-- what the bytes of the volume of this name are read as once they are healed
abbrev pub IsReadHealed : Reading → Word → Moment → Type 0
IsReadHealed Read name mid =
    (g : Group) (v : Vol) (begun : Moment) (dirty copied marks : ℕ) (healed : Moment) → IsRecoveryBegun name mid g v begun → IsHealed g v dirty copied marks begun healed → Read name v.len (candidates_read (image_on healed.world.devices g v))

-- so it is of each of these volumes that a recovery has come to
abbrev pub AreReadFrom : Reading → List Word → Moment → Type 0
AreReadFrom Read names old = (name : Word) (mid : Moment) → HasSeen names old name mid → IsRead Read name mid.world × IsReadHealed Read name mid

-- ---- what is stopped

same_touched : (old new : World) → new ≡ record old { devices = new.devices } → new.volumes ≡ old.volumes
same_touched old new same = ap (λ (w : World). w.volumes) same

healed_stops : (g : Group) (v : Vol) (old : Moment) (end : End) (new : Moment) → StopsHealed g v old end new → new.world.volumes ≡ old.world.volumes
healed_stops g v old end new h = elim h.ends [
  | inl u ↦ same_touched h.healed.world new.world u.touched.world ∙ same_touched old.world h.healed.world h.heals.healing.touched.world
  | inr e ↦ e.stops.2.committing.volumes ∙ same_touched h.healed.world e.opened.world e.opens.touched.world ∙ same_touched old.world h.healed.world h.heals.healing.touched.world
]

-- no volume begins to run, and none is left
stops_volumes : (name : Word) (old : Moment) (end : End) (new : Moment) → RecoveryStops name old end new → new.world.volumes ≡ old.world.volumes
stops_volumes name old end new (inl b) = b.stops.2.committing.volumes
stops_volumes name old end new (inr (inl b)) = volumes_of b.begun.world new.world b.ends.2.1.stays.world ∙ b.begins.committed.committing.volumes
stops_volumes name old end new (inr (inr (inl b))) = same_touched b.begun.world new.world b.ends.touched.world ∙ b.begins.committed.committing.volumes
stops_volumes name old end new (inr (inr (inr (inl b)))) = same_touched b.begun.world new.world b.ends.0.touched.world ∙ b.begins.committed.committing.volumes
stops_volumes name old end new (inr (inr (inr (inr b)))) = healed_stops b.group b.of b.begun end new b.ends ∙ b.begins.committed.committing.volumes

-- ---- the volumes

module _ (Held : Holding) (Read : Reading) where
  recovered_kept : (name : Word) (dirty copied : ℕ) (old mid : Moment) → IsReadHealed Read name old → HaveHistories Held Read old.world → IsRecovered name dirty copied old mid → HaveHistories Held Read mid.world
  recovered_kept name dirty copied old mid read all r =
      let e = r.ends in
      let v = r.of in
      let image = image_on r.healed.world.devices r.group v in
      let run = volume_started r.group v image e.runs.sound in
      let same : e.recorded.world.volumes ≡ old.world.volumes =
      e.committed.committing.volumes ∙ same_touched r.healed.world e.opened.world e.opens.touched.world ∙ same_touched r.begun.world r.healed.world r.heals.healing.touched.world ∙ r.begins.committed.committing.volumes in
      let recorded : HaveHistories Held Read e.recorded.world = same_volumes Held Read old.world e.recorded.world same all in
      let named : name ≡ v.name = sym (found_named name r.group.config.volumes v r.begins.is.volume) in
      let first : Read v.name v.len (candidates_read image) = subst (λ n. Read n v.len (candidates_read image)) named (read r.group v r.begun dirty copied r.marks r.healed r.begins r.heals) in
      same_volumes Held Read (record e.recorded.world { volumes = put v.name (Some run) e.recorded.world.volumes }) mid.world (ap (λ (w : World). w.volumes) e.runs.world)
      (put_history Held Read e.recorded.world v.name run (started_history Held Read r.group v image e.runs.sound first) recorded)

  module _ (end : End) (new : Moment) where
    one_kept : (first : Word) (names : List Word) → ((m : Moment) (views : List View) → AreReadFrom Read names m → HaveHistories Held Read m.world → Sees names m views end new → HaveHistories Held Read new.world) →
        (n : Need) (old : Moment) (views : List View) → need_of first old.world ≡ n → AreReadFrom Read (first ∷ names) old → HaveHistories Held Read old.world → SeesOne n first (Sees names) old views end new → HaveHistories Held Read new.world
    one_kept first names more Pass old views need read all rest = more old views (λ name at h. read name at (pass_seen first names old name at need h)) all rest
    one_kept first names more Begin old views need read all (inl (mid, began, later, starts, over, rest)) =
        more mid views (λ name at h. read name at (clean_seen first names old name at began mid need later starts over h))
        (start_kept Held Read old mid began all first (read first old (first_seen first names old)).0 starts) rest
    one_kept first names more Begin old views need read all (inr (none, later, stops, over)) = start_kept Held Read old new end all first (read first old (first_seen first names old)).0 stops
    one_kept first names more Heal old views need read all (inl (mid, dirty, copied, rest, later, is, told, behind)) =
        more mid rest (λ name at h. read name at (healed_seen first names old name at dirty copied mid need later is h))
        (recovered_kept first dirty copied old mid (read first old (first_seen first names old)).1 all is) behind
    one_kept first names more Heal old views need read all (inr (none, later, stops)) = same_volumes Held Read old.world new.world (stops_volumes first old end new stops) all

    names_kept : (names : List Word) (old : Moment) (views : List View) → AreReadFrom Read names old → HaveHistories Held Read old.world → Sees names old views end new → HaveHistories Held Read new.world
    names_kept [] old views read all (none, is, same) = same_volumes Held Read old.world new.world (ap (λ (m : Moment). m.world.volumes) same) all
    names_kept (first ∷ names) old views read all sees = one_kept first names (names_kept names) (need_of first old.world) old views refl read all sees

    pub recover_kept : (dg vol : Option Word) (old : Moment) (views : List View) → ((name : Word) (mid : Moment) → HasComeTo vol old name mid → IsRead Read name mid.world × IsReadHealed Read name mid) →
        HaveHistories Held Read old.world → Recovers dg vol old views end new → HaveHistories Held Read new.world
    recover_kept dg vol old views read all (inl (r, fails, none, ends)) = same_volumes Held Read old.world new.world (volumes_of old.world new.world ends.1.stays.world) all
    recover_kept dg vol old views read all (inr (passed, g, here, names, are, inl (none, (bytes, long, ends)))) = same_volumes Held Read old.world new.world (volumes_of old.world new.world ends.1.stays.world) all
    recover_kept dg vol old views read all (inr (passed, g, here, names, are, inr (short, sees))) =
        names_kept names old views (λ name mid h. read name mid (record { group = g; here = here; names = names; are = are; seen = h })) all sees
