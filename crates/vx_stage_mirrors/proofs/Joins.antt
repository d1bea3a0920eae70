-- A planned mirror on a group that is ready: each step may be done where the one before it is.
use Rattle.std.proofs.Common.{◌≡◌, ◌∙◌, true, cond, List, ◌∷◌, [], Option, Some, None, Ok, refl, sym, ap, subst, inl}
use Rattle.std.specs.Prelude.{Contains, is_some, vec_capacity}
use Rattle.std.proofs.lemmas.Bool.{false≢true}
use Rattle.vx_pages.specs.declared.local_piece.LocalPiece.{Ghosts}
use Rattle.vx_base.specs.Named.{Word}
use Rattle.vx_base.proofs.NamedLemmas.{bytes_eq_self}
use Rattle.vx_piece.specs.Seen.{Seen}
use Rattle.vx_config_parts.specs.Objects.{is_data_plex_of}
use Rattle.vx_confdb.specs.Groups.{IsAlive}
use Rattle.vx_image.specs.Bytes.{is_held}
use Rattle.vx_image.proofs.Members.{contains}
use Rattle.vx_lending.specs.Public.{running_at}
use Rattle.vx_lending.specs.declared.public.Running.{Running}
use Rattle.vx_group_edits.specs.OfVolume.{AreOf}
use Rattle.vx_group_edits.proofs.Held.{laid_held}
use Rattle.vx_stage_mirrors.specs.declared.planning.PlannedMirror.{PlannedMirror}
use Rattle.vx_house.specs.View.{IsGroupKept, IsGroupWhole}
use Rattle.vx_house.specs.declared.house.Imported.{Imported}
use Rattle.vx_stage_volumes.specs.Opening.{good_of}
use Rattle.vx_stage_volumes.proofs.Named.{found_name}
use Rattle.vx_stage_mirrors.specs.Joining.{IsJoinedIn, MayJoin}
use Rattle.vx_stage_mirrors.specs.Marking.{MarksIn, MayMark}
use Rattle.vx_stage_mirrors.proofs.JoiningParking.{parking_parts}
use Rattle.vx_stage_mirrors.specs.Ending.{IsParkedIn, IsPlannedMirror}
use Rattle.vx_stage_mirrors.specs.ParkedPieces.{IsAddition}
use Rattle.vx_stage_mirrors.proofs.Facts.{kept3, may_mark, ready}
use Rattle.vx_stage_mirrors.proofs.JoinedWhole.{whole_joined}
use Rattle.vx_stage_mirrors.proofs.GroupLaws.{group_laws}

some_at : {X : Type 0} (o : Option X) → is_some o ≡ true → (x : X) × (o ≡ Some x)
some_at None e = absurd (false≢true e)
some_at (Some x) e = (x, refl)

module _ {P : Type 0} {ghosts : Ghosts P} (alike : (p q : P) → is_some (ghosts.seen p).told ≡ is_some (ghosts.seen q).told) (name : Word) (disks : List Word) (p : PlannedMirror) (g : Imported P ghosts) (kept : IsGroupKept ghosts.seen g)
    (planned : IsPlannedMirror ghosts.seen name disks p g) (runs : is_some (running_at g.public name) ≡ true) where
  abbrev see : P → Seen
  see = ghosts.seen

  abbrev run : Running P ghosts
  run = (some_at (running_at g.public name) runs).0

  there : running_at g.public name ≡ Some run
  there = (some_at (running_at g.public name) runs).1

  named : planned.volume.name ≡ name
  named = found_name g.config name planned.volume planned.found

  -- ---- before anything is touched

  pub addition : IsAddition g.config name p
  addition = record {
    added = planned.planned.added;
    of = subst (λ n. AreOf n planned.planned.added) named planned.planned.at.of;
    edited = planned.planned.next.0;
    alone = planned.planned.at.plexes;
    own = subst (λ n. is_data_plex_of n p.plex ≡ true) named planned.planned.at.own;
  }

  pub held : is_held p.next.config (good_of see g) p.plex ≡ true
  held = laid_held g.config p.next.config (good_of see g) planned.volume disks p.map planned.planned.added planned.planned.laid planned.planned.next.0 p.plex
      (subst (λ ps. Contains ps p.plex) (sym planned.planned.at.plexes) (contains (p.plex ∷ []) p.plex (inl refl)))

  -- ---- parked

  module _ (mid : Imported P ghosts) (parks : IsParkedIn see name p g mid) where
    pub kept_parked : IsGroupKept see mid
    kept_parked = (parking_parts see g mid alike kept parks.lies).kept

    pub marks_then : MayMark see p.map (running_at mid.public name)
    marks_then = may_mark (group_laws ghosts) alike name disks p g kept planned run there mid parks.parked parks.for_it parks.lies kept_parked

    -- ---- marked

    module _ (marked : Imported P ghosts) (marks : MarksIn see name p.map (Ok tt) mid marked) where
      pub kept_marked : IsGroupKept see marked
      kept_marked = kept3 (group_laws ghosts) alike name disks p g kept planned run there mid parks.parked parks.for_it parks.lies kept_parked marked marks

      pub joins_then : MayJoin see p.map (vec_capacity parks.parked.room) marked.public.left.items (running_at marked.public name)
      joins_then = (ready (group_laws ghosts) alike name disks p g kept planned run there mid parks.parked parks.for_it parks.lies kept_parked marked marks).may

      pub alive : IsAlive see marked.base
      alive = kept_marked.carries.alive

      pub going : marked.base.lost ≡ None
      going = kept_marked.carries.lost

      -- ---- joined

      module _ (joined : Imported P ghosts) (joins : IsJoinedIn see name p.map parks.parked.layout p.next marked joined) where
        pub whole : IsGroupWhole see joined
        whole = whole_joined see alike marked joined kept_marked.whole name p.map parks.parked.layout p.next (vec_capacity parks.parked.room) joins_then joins

        pub runs_joined : is_some (running_at joined.public name) ≡ true
        runs_joined = ap is_some (joins.runs.puts name ∙ ap (λ b. cond b (Some joins.runs.after) (running_at marked.public name)) (bytes_eq_self name))
