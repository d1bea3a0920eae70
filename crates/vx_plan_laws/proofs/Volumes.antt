-- Why a start, a mirror, logs that come or go, plexes that go out of use or into use or leave, and a stop are refused for their volume, and what
-- they leave then.
use Rattle.std.proofs.Common.{◌≡◌, ◌⊎◌, ◌&&◌, ◌∙◌, Bool, true, false, MatchBool, MatchOption, Option, Some, None, List, [], is_some, if◌then◌else◌, refl, sym, ap, subst, inl, inr}
use Rattle.vx_base.specs.Named.{Word}
use Rattle.vx_config_parts.specs.declared.plex.Plex.{Plex}
use Rattle.vx_config_parts.specs.declared.vol.Vol.{Vol}
use Rattle.vx_copies.specs.Lists.{AnyOf}
use Rattle.vx_answers.specs.declared.answer.End.TheVariants as ends
use Rattle.vx_answers.specs.declared.refusal.Refusal.{Refusal}
use Rattle.vx_answers.specs.declared.refusal.Refusal.TheVariants as refusal
use Rattle.vx_moments.specs.Commit.{Writing, IsStopped, CarriersFailed, parties}
use Rattle.vx_moments.specs.Moment.{Moment, Rests}
use Rattle.vx_moments.specs.World.{Group}
use Rattle.vx_stages.specs.Attached.{AttachStops, AttachStopsIn}
use Rattle.vx_stages.specs.Detached.{DetachStops, DetachStopsIn, StopsNeeded}
use Rattle.vx_stages.specs.Ends.{EndsIn, refused}
use Rattle.vx_new_volumes.specs.declared.logs.NewLogs.{NewLogs}
use Rattle.vx_stages.specs.Leaving.{IsLeavingRefused, MayLeave}
use Rattle.vx_stages.specs.Left.{LeavingStops, LeavingStopsIn, LeavingStopsOf, StopsLate}
use Rattle.vx_stages.specs.Logged.{PrepareStops, PrepareStopsIn, UnprepareStops, UnprepareStopsIn}
use Rattle.vx_stages.specs.Logging.{IsPrepareRefused, IsUnprepareRefused}
use Rattle.vx_stages.specs.Mirrored.{MirrorIsRefused, MirrorStops, MirrorStopsIn}
use Rattle.vx_stages.specs.Plexes.{IsAttachRefused, IsDetachRefused}
use Rattle.vx_stages.specs.Starting.{StartStops, StopsIn, StopsOf, StopsUnopened, may_start}
use Rattle.vx_stages.specs.Stopping.{StopStops, is_active, refusal_by, runs_on_plexes, stop_refusal}
use Rattle.vx_stages.specs.Tests.{volume_in}
use Rattle.vx_plan_laws.specs.Keeping.{IsLeftUnopened}
use Rattle.vx_plan_laws.specs.Refusing.{AttachRefuses, DetachRefuses, LeavingRefuses, MirrorRefuses, OfGroup, OfVolume, OpeningRefuses, PrepareRefuses, StartRefuses, StopRefuses, UnprepareRefuses}

-- a commit that is stopped is no refusal
pub not_stopped : (x : Writing) (old : Moment) (r : Refusal) (new : Moment) → IsStopped x old (refused r) new → ⊥
not_stopped x old r new stopped = by stopped.ends
  where
    by : ((refused r ≡ ends.GroupLost) × CarriersFailed x old.counts new.counts) ⊎ ((refused r ≡ ends.Lost []) × AnyOf (λ m. new.counts.cut m.device ≡ true) (parties x)) → ⊥
    by (inl l) = let e = l.0 in cc
    by (inr l) = let e = l.0 in cc

pub same_refusal : (r s : Refusal) → refused r ≡ refused s → r ≡ s
same_refusal r s e = cc

module _ (old : Moment) (r : Refusal) (new : Moment) where
  -- ---- a start

  pub opening : (g : Group) (v : Vol) → StopsUnopened g v old (refused r) new → OpeningRefuses g v old r new
  opening g v stops = elim stops.cause [
    | inl unread ↦ (stops.untested, unread.1, inl (same_refusal r (refusal.NoLog v.name) unread.0, unread.2, unread.3))
    | inr (inl (region, is, filled, missed)) ↦ (stops.untested, filled, inr (region, same_refusal r (refusal.NoCurrent region) is, missed))
    | inr (inr (inl (told, device, is, fails))) ↦ let no : refused r ≡ ends.Fault told device [] = is in cc
    | inr (inr (inr (is, cut))) ↦ let no : refused r ≡ ends.Lost [] = is in cc
  ]

  by_stages : (g : Group) (v : Vol) → may_start v.state ≡ true → StopsOf g v old (refused r) new → StartRefuses g v old r new
  by_stages g v may (inl (inl (s, e, is), rests)) = inr (may, inl (e ∙ ap (λ (x : Refusal). Some x) (sym (same_refusal r s is))))
  by_stages g v may (inl (inr (none, next, edited, long), rests)) = inr (may, inr (inl (none, (next, edited, long))))
  by_stages g v may (inr (inl stops)) = inr (may, inr (inr (opening g v stops)))
  by_stages g v may (inr (inr (inl c))) = absurd (not_stopped c.stops.0 c.opened r new c.stops.2)
  by_stages g v may (inr (inr (inr a))) = absurd a.copied.ends

  by_state : (g : Group) (v : Vol) (may : Bool) → may_start v.state ≡ may → MatchBool may (StopsOf g v old (refused r) new) (EndsIn (refusal.VolState v.state) old (refused r) new) → StartRefuses g v old r new
  by_state g v true may stops = by_stages g v may stops
  by_state g v false may ends = inl (may, same_refusal r (refusal.VolState v.state) ends.0)

  abbrev Starts : Group → Word → Option Vol → Type 0
  Starts g name o = MatchOption o (EndsIn (refusal.NoObject name) old (refused r) new) (λ v. MatchBool (may_start v.state) (StopsOf g v old (refused r) new) (EndsIn (refusal.VolState v.state) old (refused r) new))

  pub start_refuses : (name : Word) (g : Group) → old.world.group ≡ Some g → is_some (volume_in name g.config.volumes) ≡ true → StartStops name old (refused r) new → OfGroup old.world (λ g. OfVolume name g (λ v. StartRefuses g v old r new))
  start_refuses name g here there stops =
      (g, here, by (volume_in name g.config.volumes) refl there (subst (λ (o : Option Group). MatchOption o (EndsIn (refusal.NoGroup None) old (refused r) new) (λ g. StopsIn g name old (refused r) new)) here stops))
    where
      by : (o : Option Vol) → volume_in name g.config.volumes ≡ o → is_some o ≡ true → Starts g name o → OfVolume name g (λ v. StartRefuses g v old r new)
      by None is some ends = cc
      by (Some v) is some stops = (v, is, by_state g v (may_start v.state) refl stops)

  -- the world stays, but where the log was called of a volume that cannot be opened
  left_of : (g : Group) (v : Vol) → may_start v.state ≡ true → StopsOf g v old (refused r) new → (new.world ≡ old.world) ⊎ StopsUnopened g v old (refused r) new
  left_of g v may (inl (why, rests)) = inl rests.stays.world
  left_of g v may (inr (inl stops)) = inr stops
  left_of g v may (inr (inr (inl c))) = absurd (not_stopped c.stops.0 c.opened r new c.stops.2)
  left_of g v may (inr (inr (inr a))) = absurd a.copied.ends

  pub start_left : (name : Word) → StartStops name old (refused r) new → (new.world ≡ old.world) ⊎ IsLeftUnopened name old r new
  start_left name stops = in_world old.world.group refl stops
    where
      told : (g : Group) (v : Vol) → old.world.group ≡ Some g → volume_in name g.config.volumes ≡ Some v → may_start v.state ≡ true → (new.world ≡ old.world) ⊎ StopsUnopened g v old (refused r) new → (new.world ≡ old.world) ⊎ IsLeftUnopened name old r new
      told g v here is may (inl same) = inl same
      told g v here is may (inr stops) = inr (g, here, (v, is, (may, stops.touched, opening g v stops)))

      of_state : (g : Group) (v : Vol) (may : Bool) → may_start v.state ≡ may → old.world.group ≡ Some g → volume_in name g.config.volumes ≡ Some v → MatchBool may (StopsOf g v old (refused r) new) (EndsIn (refusal.VolState v.state) old (refused r) new) → (new.world ≡ old.world) ⊎ IsLeftUnopened name old r new
      of_state g v true may here is stops = told g v here is may (left_of g v may stops)
      of_state g v false may here is ends = inl ends.1.stays.world

      in_group : (g : Group) (o : Option Vol) → old.world.group ≡ Some g → volume_in name g.config.volumes ≡ o → Starts g name o → (new.world ≡ old.world) ⊎ IsLeftUnopened name old r new
      in_group g None here is ends = inl ends.1.stays.world
      in_group g (Some v) here is stops = of_state g v (may_start v.state) refl here is stops

      in_world : (o : Option Group) → old.world.group ≡ o → MatchOption o (EndsIn (refusal.NoGroup None) old (refused r) new) (λ g. StopsIn g name old (refused r) new) → (new.world ≡ old.world) ⊎ IsLeftUnopened name old r new
      in_world None here ends = inl ends.1.stays.world
      in_world (Some g) here stops = in_group g (volume_in name g.config.volumes) here refl stops

  -- ---- a mirror

  mirror_refused : (g : Group) (name : Word) (named : List Word) → MirrorStopsIn g name named old (refused r) new → MirrorIsRefused g (runs_on_plexes old.world name) name named old (refused r) new
  mirror_refused g name named (inl is) = is
  mirror_refused g name named (inr (inl u)) = absurd u.stops.cause
  mirror_refused g name named (inr (inr (inl c))) = absurd (not_stopped c.stops.0 c.marked r new c.stops.2)
  mirror_refused g name named (inr (inr (inr a))) = absurd a.copied.ends

  pub mirror_refuses : (name : Word) (named : List Word) (g : Group) → old.world.group ≡ Some g → MirrorStops name named old (refused r) new → OfGroup old.world (λ g. MirrorRefuses name named g old.world r)
  mirror_refuses name named g here stops =
      (g, here, (mirror_refused g name named (subst (λ (o : Option Group). MatchOption o (EndsIn (refusal.NoGroup None) old (refused r) new) (λ g. MirrorStopsIn g name named old (refused r) new)) here stops)).0)

  pub mirror_left : (name : Word) (named : List Word) → MirrorStops name named old (refused r) new → new.world ≡ old.world
  mirror_left name named stops = by old.world.group stops
    where
      by : (o : Option Group) → MatchOption o (EndsIn (refusal.NoGroup None) old (refused r) new) (λ g. MirrorStopsIn g name named old (refused r) new) → new.world ≡ old.world
      by None ends = ends.1.stays.world
      by (Some g) more = (mirror_refused g name named more).1.stays.world

  -- ---- logs that come and go

  prepare_refused : (g : Group) (n : NewLogs) → PrepareStopsIn g n old (refused r) new → IsPrepareRefused (runs_on_plexes old.world n.vol) g n (refused r) × Rests old new
  prepare_refused g n (inl is) = is
  prepare_refused g n (inr (inl u)) = absurd u.cause
  prepare_refused g n (inr (inr c)) = absurd (not_stopped c.stops.0 c.written r new c.stops.2)

  pub prepare_refuses : (n : NewLogs) (g : Group) → old.world.group ≡ Some g → PrepareStops n old (refused r) new → OfGroup old.world (λ g. PrepareRefuses n g old.world r)
  prepare_refuses n g here stops =
      (g, here, (prepare_refused g n (subst (λ (o : Option Group). MatchOption o (EndsIn (refusal.NoGroup None) old (refused r) new) (λ g. PrepareStopsIn g n old (refused r) new)) here stops)).0)

  pub prepare_left : (n : NewLogs) → PrepareStops n old (refused r) new → new.world ≡ old.world
  prepare_left n stops = by old.world.group stops
    where
      by : (o : Option Group) → MatchOption o (EndsIn (refusal.NoGroup None) old (refused r) new) (λ g. PrepareStopsIn g n old (refused r) new) → new.world ≡ old.world
      by None ends = ends.1.stays.world
      by (Some g) more = (prepare_refused g n more).1.stays.world

  unprepare_refused : (g : Group) (name : Word) → UnprepareStopsIn g name old (refused r) new → IsUnprepareRefused g name (refused r) × Rests old new
  unprepare_refused g name (inl is) = is
  unprepare_refused g name (inr c) = absurd (not_stopped c.stops.0 old r new c.stops.2)

  pub unprepare_refuses : (name : Word) (g : Group) → old.world.group ≡ Some g → UnprepareStops name old (refused r) new → OfGroup old.world (λ g. UnprepareRefuses name g r)
  unprepare_refuses name g here stops =
      (g, here, (unprepare_refused g name (subst (λ (o : Option Group). MatchOption o (EndsIn (refusal.NoGroup None) old (refused r) new) (λ g. UnprepareStopsIn g name old (refused r) new)) here stops)).0)

  pub unprepare_left : (name : Word) → UnprepareStops name old (refused r) new → new.world ≡ old.world
  unprepare_left name stops = by old.world.group stops
    where
      by : (o : Option Group) → MatchOption o (EndsIn (refusal.NoGroup None) old (refused r) new) (λ g. UnprepareStopsIn g name old (refused r) new) → new.world ≡ old.world
      by None ends = ends.1.stays.world
      by (Some g) more = (unprepare_refused g name more).1.stays.world

  -- ---- plexes that go out of use and into use

  detach_refused : (g : Group) (name : Word) → DetachStopsIn g name old (refused r) new → (IsDetachRefused (runs_on_plexes old.world) g name (refused r) × Rests old new) ⊎ StopsNeeded name old (refused r) new
  detach_refused g name (inl is) = inl is
  detach_refused g name (inr (inl u)) = absurd u.stops.cause
  detach_refused g name (inr (inr (inl n))) = inr n
  detach_refused g name (inr (inr (inr c))) = absurd (not_stopped c.stops.0 c.mid r new c.stops.2)

  abbrev Detaches : Word → Option Group → Type 0
  Detaches name o = MatchOption o (EndsIn (refusal.NoGroup None) old (refused r) new) (λ g. DetachStopsIn g name old (refused r) new)

  pub detach_refuses : (name : Word) (g : Group) → old.world.group ≡ Some g → DetachStops name old (refused r) new → OfGroup old.world (λ g. DetachRefuses name g old r new)
  detach_refuses name g here stops = (g, here, elim (detach_refused g name (subst (Detaches name) here stops)) [ inl why ↦ inl why.0 | inr needed ↦ inr needed ])

  pub detach_left : (name : Word) → DetachStops name old (refused r) new → (new.world ≡ old.world) ⊎ StopsNeeded name old (refused r) new
  detach_left name stops = by old.world.group stops
    where
      by : (o : Option Group) → Detaches name o → (new.world ≡ old.world) ⊎ StopsNeeded name old (refused r) new
      by None ends = inl ends.1.stays.world
      by (Some g) more = elim (detach_refused g name more) [ inl why ↦ inl why.1.stays.world | inr needed ↦ inr needed ]

  -- ---- a plex that leaves

  abbrev LeavesNot : (remove : Bool) → Word → Group → Type 0
  LeavesNot remove name g = (IsLeavingRefused (runs_on_plexes old.world) g remove name (refused r) × Rests old new) ⊎ StopsLate remove name old (refused r) new

  leaving_late : (g : Group) → old.world.group ≡ Some g → (remove : Bool) (name : Word) (p : Plex) → MayLeave (runs_on_plexes old.world) g remove name p → (o : Option Word) → p.vol ≡ o → LeavingStopsOf remove g p o old (refused r) new → LeavesNot remove name g
  leaving_late g here remove name p may None own stops = absurd (not_stopped stops.0 old r new stops.2)
  leaving_late g here remove name p may (Some vol) own (v, is, inr (inr c)) = absurd (not_stopped c.stops.0 c.mid r new c.stops.2)
  leaving_late g here remove name p may (Some vol) own (v, is, inl u) = inr (record { from = record { group = g; here = here; plex = p; may = may; vol = vol; own = own; volume = v; there = is }; stops = inl u })
  leaving_late g here remove name p may (Some vol) own (v, is, inr (inl kept)) = inr (record { from = record { group = g; here = here; plex = p; may = may; vol = vol; own = own; volume = v; there = is }; stops = inr kept })

  leaving_refused : (g : Group) → old.world.group ≡ Some g → (remove : Bool) (name : Word) → LeavingStopsIn g remove name old (refused r) new → LeavesNot remove name g
  leaving_refused g here remove name (inl is) = inl is
  leaving_refused g here remove name (inr (p, may, stops)) = leaving_late g here remove name p may p.vol refl stops

  abbrev Dissociates : (remove : Bool) → Word → Option Group → Type 0
  Dissociates remove name o = MatchOption o (EndsIn (refusal.NoGroup None) old (refused r) new) (λ g. LeavingStopsIn g remove name old (refused r) new)

  pub leaving_refuses : (remove : Bool) (name : Word) (g : Group) → old.world.group ≡ Some g → LeavingStops remove name old (refused r) new → OfGroup old.world (λ g. LeavingRefuses remove name g old r new)
  leaving_refuses remove name g here stops = (g, here, elim (leaving_refused g here remove name (subst (Dissociates remove name) here stops)) [ inl why ↦ inl why.0 | inr late ↦ inr late ])

  pub leaving_left : (remove : Bool) (name : Word) → LeavingStops remove name old (refused r) new → (new.world ≡ old.world) ⊎ StopsLate remove name old (refused r) new
  leaving_left remove name stops = by old.world.group refl stops
    where
      by : (o : Option Group) → old.world.group ≡ o → Dissociates remove name o → (new.world ≡ old.world) ⊎ StopsLate remove name old (refused r) new
      by None here ends = inl ends.1.stays.world
      by (Some g) here more = elim (leaving_refused g here remove name more) [ inl why ↦ inl why.1.stays.world | inr late ↦ inr late ]

  attach_refused : (g : Group) (vol name : Word) → AttachStopsIn g vol name old (refused r) new → IsAttachRefused (runs_on_plexes old.world vol) g vol name (refused r) × Rests old new
  attach_refused g vol name (inl is) = is
  attach_refused g vol name (inr (inl c)) = absurd (not_stopped c.stops.0 old r new c.stops.2)
  attach_refused g vol name (inr (inr a)) = absurd a.copied.ends

  abbrev Attaches : (vol name : Word) → Option Group → Type 0
  Attaches vol name o = MatchOption o (EndsIn (refusal.NoGroup None) old (refused r) new) (λ g. AttachStopsIn g vol name old (refused r) new)

  pub attach_refuses : (vol name : Word) (g : Group) → old.world.group ≡ Some g → AttachStops vol name old (refused r) new → OfGroup old.world (λ g. AttachRefuses vol name g old.world r)
  attach_refuses vol name g here stops = (g, here, (attach_refused g vol name (subst (Attaches vol name) here stops)).0)

  pub attach_left : (vol name : Word) → AttachStops vol name old (refused r) new → new.world ≡ old.world
  attach_left vol name stops = by old.world.group stops
    where
      by : (o : Option Group) → Attaches vol name o → new.world ≡ old.world
      by None ends = ends.1.stays.world
      by (Some g) more = (attach_refused g vol name more).1.stays.world

  -- ---- a stop

  by_tests : (v : Vol) (fits : Bool) (s : Refusal) → (if fits then None else Some (refusal.VolState v.state)) ≡ Some s → (fits ≡ false) × (s ≡ refusal.VolState v.state)
  by_tests v true s e = absurd (cc)
  by_tests v false s e = (refl, cc)

  has_passed : (v : Vol) (fits : Bool) → (if fits then None else Some (refusal.VolState v.state)) ≡ None → fits ≡ true
  has_passed v true e = refl
  has_passed v false e = cc

  pub stop_refuses : (name : Word) (g : Group) → old.world.group ≡ Some g → is_some (volume_in name g.config.volumes) ≡ true → StopStops name old (refused r) new → OfGroup old.world (λ g. OfVolume name g (λ v. StopRefuses name g v old.world r))
  stop_refuses name g here there (inl (inl (s, e, told), rests)) = (g, here, by (volume_in name g.config.volumes) refl there (subst (λ (o : Option Group). stop_refusal name o (runs_on_plexes old.world name) ≡ Some s) here e))
    where
      by : (o : Option Vol) → volume_in name g.config.volumes ≡ o → is_some o ≡ true → refusal_by name o (runs_on_plexes old.world name) ≡ Some s → OfVolume name g (λ v. StopRefuses name g v old.world r)
      by None is some e = cc
      by (Some v) is some e =
          let found = by_tests v (runs_on_plexes old.world name && is_active v.state) s e in
          (v, is, inl (found.0, same_refusal r s told ∙ found.1))
  stop_refuses name g here there (inl (inr (g', here', none, (v, found, long)), rests)) =
      (g', here', (v, found, inr (has_passed v (runs_on_plexes old.world name && is_active v.state) (subst (λ (o : Option Vol). refusal_by name o (runs_on_plexes old.world name) ≡ None) found none), long)))
  stop_refuses name g here there (inr (inl rest)) = absurd rest.cause
  stop_refuses name g here there (inr (inr b)) = absurd (not_stopped b.writing b.mid r new b.stopped)

  pub stop_left : (name : Word) → StopStops name old (refused r) new → new.world ≡ old.world
  stop_left name (inl (why, rests)) = rests.stays.world
  stop_left name (inr (inl rest)) = absurd rest.cause
  stop_left name (inr (inr b)) = absurd (not_stopped b.writing b.mid r new b.stopped)
