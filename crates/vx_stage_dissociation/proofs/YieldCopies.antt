-- A log plex has left a running volume on the group: its log gave up the copy that lay there, or none did.
use Rattle.std.proofs.Common.{◌≡◌, ◌≢◌, ◌∙◌, ℕ, ◌<◌, ◌≤◌, Bool, true, false, cond, List, [], ◌∷◌, ◌++◌, length, Option, Some, None, refl, sym, ap, subst, inl, inr, arith}
use Rattle.std.specs.BTreeMap.{BTreeMap, IsOrdered, get, is_at}
use Rattle.std.specs.Cmp.Lexicographic.{slice_cmp}
use Rattle.std.specs.Map.{set_value}
use Rattle.std.specs.Ordering.{nat_cmp}
use Rattle.std.specs.Prelude.{IfSome, is_some}
use Rattle.std.specs.Str.{bytes_eq}
use Rattle.vx_base.specs.Named.{SameUnder, Word, put}
use Rattle.vx_base.proofs.NamedLemmas.{bytes_eq_same}
use Rattle.vx_piece.specs.Seen.{Seen}
use Rattle.vx_pages.specs.declared.local_piece.LocalPiece.{Ghosts}
use Rattle.vx_layout.specs.declared.layout.Layout.{Layout}
use Rattle.vx_carve.specs.Together.{SameSectors}
use Rattle.vx_carve.proofs.Same.{same_refl}
use Rattle.vx_config_parts.specs.declared.plex.Plex.{Plex}
use Rattle.vx_config_parts.specs.declared.vol.Vol.{Vol}
use Rattle.vx_objects.specs.declared.config.Config.{Config}
use Rattle.vx_copies.specs.Disks.{good_mask}
use Rattle.vx_confdb.specs.Groups.{members}
use Rattle.vx_maps.specs.Copies.{copies_list}
use Rattle.vx_volume.specs.declared.log.VolumeLog.{VolumeLog}
use Rattle.vx_volume.specs.declared.log.VolumeLog.TheVariants.{Absent, Maps}
use Rattle.vx_volume.specs.Volume.{IsVolume, log_of, volume_seen}
use Rattle.vx_lending.specs.Left.{held_pieces}
use Rattle.vx_lending.specs.Logs.{log_copies}
use Rattle.vx_lending.specs.Pieces.{copy_pieces}
use Rattle.vx_lending.specs.Public.{running_at, still_pieces}
use Rattle.vx_lending.specs.declared.public.Public.{Public}
use Rattle.vx_lending.specs.declared.public.Running.{Running}
use Rattle.vx_group_volumes.specs.Places.{RunsInPlace}
use Rattle.vx_yielded_volumes.specs.Yielded.{HasYielded, IsCopyOn, IsOnNoCopy}
use Rattle.vx_house.specs.Runs.{IsInPlace}
use Rattle.vx_house.specs.Scene.{Shelved}
use Rattle.vx_house.specs.View.{IsGroupKept, Keeps, at}
use Rattle.vx_house.specs.declared.house.House.{House}
use Rattle.vx_house.specs.declared.house.Imported.{Imported}
use Rattle.vx_house_calls.proofs.Entries.{IsSetAt, set_at}
use Rattle.vx_stage_changes.specs.declared.planning.NextConfig.{NextConfig}
use Rattle.vx_stage_volumes.proofs.Entries.{entry_found}
use Rattle.vx_stage_mirrors.specs.Relogging.{IsPowered, IsRecordedIn}
use Rattle.vx_stage_mirrors.proofs.LogGoing.{some_one}
use Rattle.vx_stage_mirrors.proofs.RelogWhole.{committed_by}
use Rattle.vx_stage_dissociation.specs.Yielding.{GivesIn, YieldsIn}
use Rattle.vx_stage_dissociation.proofs.YieldPieces.{held_split, moved}
use Rattle.vx_stage_dissociation.proofs.YieldWhole.{IsLogLoss, IsLogOff, IsPutFor, IsYielding, MovesPieces}

-- ---- how many copies there are

list_few : (first : List Seen) (o : Option (List Seen)) → length (copies_list first o) ≤ 2
list_few first None = omega arith
list_few first (Some second) = omega arith

few_copies : {P : Type 0} {ghosts : Ghosts P} (see : P → Seen) (log : VolumeLog P ghosts) → length (log_copies see log) ≤ 2
few_copies see Absent = omega arith
few_copies see (Maps store) = list_few _ _

-- a log is on a copy for each layout, and on two at most
pub logs_few : {P : Type 0} {ghosts : Ghosts P} (see : P → Seen) (c : Config) (good : ℕ) (numbers : List ℕ) (v : Vol) (r : Running P ghosts) → RunsInPlace see c good numbers v r → length r.form.logs.items ≤ 2
logs_few see c good numbers v r placed = let long = placed.runs.lies.lies.logs.long in let few = few_copies see (log_of r.volume) in omega (arith, long, few)

-- where it can give up one it is on two
gives_two : {P : Type 0} {ghosts : Ghosts P} (see : P → Seen) (c : Config) (good : ℕ) (numbers : List ℕ) (v : Vol) (r after : Running P ghosts) → RunsInPlace see c good numbers v r → (copy : ℕ) → HasYielded see copy r.volume after.volume →
    length (log_copies see (log_of r.volume)) ≡ 2
gives_two see c good numbers v r after placed copy has = sym placed.runs.lies.lies.log.count ∙ has.yields.gives.two

-- ---- a volume that is put where it was

-- nothing has changed then
set_same : {X : Type 0} (test : Word → Bool) (x : X) (es : List (Word × X)) → IsSetAt es (set_value test es x) x x → set_value test es x ≡ es
set_same test x es s = s.is ∙ sym s.was

puts_same : {X : Type 0} (f : Word → Option X) (name : Word) (x : X) → f name ≡ Some x → SameUnder (put name (Some x) f) f
puts_same f name x was other = by (bytes_eq name other) refl
  where
    by : (b : Bool) → bytes_eq name other ≡ b → f other ≡ cond b (Some x) (f other)
    by true e = ap f (sym (bytes_eq_same name other e)) ∙ was
    by false e = refl

-- ---- the two cases

module _ {P : Type 0} {ghosts : Ghosts P} (alike : (p q : P) → is_some (ghosts.seen p).told ≡ is_some (ghosts.seen q).told) {shelf : Shelved} {h : House P ghosts} (keeps : Keeps ghosts.seen (at shelf h)) {g : Imported P ghosts} (has_group : h.group ≡ Some g)
    {v : Vol} {p : Plex} {remove : Bool} {next : NextConfig} (plan : IsLogLoss g v p remove next) (r : Running P ghosts) (there : running_at g.public v.name ≡ Some r) where
  abbrev see : P → Seen
  see = ghosts.seen

  kept : IsGroupKept ghosts.seen g
  kept = subst (λ o. IfSome o (IsGroupKept ghosts.seen)) has_group keeps.house.group

  place : IsInPlace ghosts.seen (members ghosts.seen g.base) g.config (good_mask (members ghosts.seen g.base)) v.name r
  place = entry_found (λ n x. IsInPlace ghosts.seen (members ghosts.seen g.base) g.config (good_mask (members ghosts.seen g.base)) n x) v.name g.public.running.entries r kept.placed there

  pub run_few : length r.form.logs.items ≤ 2
  run_few = logs_few ghosts.seen g.config (good_mask (members ghosts.seen g.base)) place.numbers place.of r place.placed

  -- the copy on the plex was given up
  module _ (copy : ℕ) (on : IsCopyOn r.form.logs.items copy plan.layout) (powered : IsPowered ghosts.seen r) (new : Imported P ghosts) (y : YieldsIn ghosts.seen v.name copy next g new) where
    recorded_is : y.recorded ≡ committed_by g next y.recorded.base
    recorded_is = λ i. record { config = y.records.config i; base = y.recorded.base; public = y.records.public i }

    gives : GivesIn ghosts.seen v.name copy (committed_by g next y.recorded.base) new
    gives = subst (λ (x : Imported P ghosts). GivesIn ghosts.seen v.name copy x new) recorded_is y.gives

    same : r ≡ gives.runs.before
    same = some_one r gives.runs.before (sym there ∙ gives.runs.was)

    placed : RunsInPlace ghosts.seen g.config (good_mask (members ghosts.seen g.base)) place.numbers place.of gives.runs.before
    placed = subst (RunsInPlace ghosts.seen g.config (good_mask (members ghosts.seen g.base)) place.numbers place.of) same place.placed

    on_before : IsCopyOn gives.runs.before.form.logs.items copy plan.layout
    on_before = subst (λ (x : Running P ghosts). IsCopyOn x.form.logs.items copy plan.layout) same on

    has : HasYielded ghosts.seen copy gives.runs.before.volume gives.runs.after.volume
    has = gives.runs.has.volume

    two : length (log_copies ghosts.seen (log_of gives.runs.before.volume)) ≡ 2
    two = gives_two ghosts.seen g.config (good_mask (members ghosts.seen g.base)) place.numbers place.of gives.runs.before gives.runs.after placed copy has

    low : copy < 2
    low = let inside = on_before.inside in let few = logs_few ghosts.seen g.config (good_mask (members ghosts.seen g.base)) place.numbers place.of gives.runs.before placed in omega (arith, inside, few)

    moves : MovesPieces ghosts.seen gives.runs.before gives.runs.after (committed_by g next y.recorded.base) new
    unfolding gives has
    moves F T =
        moved (still_pieces ghosts.seen g.public) (still_pieces ghosts.seen new.public) gives.gone (held_pieces ghosts.seen gives.runs.before.volume) (held_pieces ghosts.seen gives.runs.after.volume) F T
        (subst (λ (gone : List Seen). SameSectors (held_pieces ghosts.seen gives.runs.before.volume) (gone ++ held_pieces ghosts.seen gives.runs.after.volume)) gives.runs.has.pieces
        (held_split ghosts.seen copy gives.runs.before.volume gives.runs.after.volume has low two))
        gives.together

    pub yielding : IsYielding shelf h g new v p remove next
    yielding = record {
      alike = alike;
      has_group = has_group;
      keeps = keeps;
      plan = plan;
      base = y.recorded.base;
      finished = y.records.finished;
      before = gives.runs.before;
      after = gives.runs.after;
      puts = record { ordered = gives.runs.ordered; was = gives.runs.was; entries = gives.runs.entries; puts = gives.runs.puts; same = gives.same };
      moves = moves;
      whole = has.whole;
      off = inl (record { copy = copy; on = on_before; form = gives.runs.has.form; volume = has; powered = subst (IsPowered ghosts.seen) same powered });
    }

  -- none was on it
  module _ (none : IsOnNoCopy r.form.logs.items plan.layout) (ordered : IsOrdered (slice_cmp nat_cmp) g.public.running) (new : Imported P ghosts) (records : IsRecordedIn ghosts.seen next g new) where
    running_is : new.public.running ≡ g.public.running
    running_is = ap (λ (x : Public P ghosts). x.running) records.public

    entries : new.public.running.entries ≡ set_value (is_at (slice_cmp nat_cmp v.name)) g.public.running.entries r
    entries = ap (λ (m : BTreeMap Word (Running P ghosts)). m.entries) running_is ∙ sym (set_same (is_at (slice_cmp nat_cmp v.name)) r g.public.running.entries (set_at (is_at (slice_cmp nat_cmp v.name)) r r g.public.running.entries there))

    puts : SameUnder (put v.name (Some r) (get (slice_cmp nat_cmp) g.public.running)) (get (slice_cmp nat_cmp) new.public.running)
    puts = subst (λ (m : BTreeMap Word (Running P ghosts)). SameUnder (put v.name (Some r) (get (slice_cmp nat_cmp) g.public.running)) (get (slice_cmp nat_cmp) m)) (sym running_is) (puts_same (get (slice_cmp nat_cmp) g.public.running) v.name r there)

    public_is : new.public ≡ record g.public { left = new.public.left; running = new.public.running }
    public_is = λ i. record { pool = (records.public i).pool; left = new.public.left; running = new.public.running; stuck = (records.public i).stuck }

    same_then : new ≡ record (committed_by g next new.base) { public = record g.public { left = new.public.left; running = new.public.running } }
    same_then = λ i. record { config = records.config i; base = new.base; public = public_is i }

    moves_none : MovesPieces ghosts.seen r r (committed_by g next new.base) new
    moves_none F T =
        subst (λ (x : Public P ghosts). SameSectors (still_pieces ghosts.seen g.public ++ (F ++ (held_pieces ghosts.seen r.volume ++ T))) (still_pieces ghosts.seen x ++ (F ++ (held_pieces ghosts.seen r.volume ++ T)))) (sym records.public)
        (same_refl (still_pieces ghosts.seen g.public ++ (F ++ (held_pieces ghosts.seen r.volume ++ T))))

    pub unlogging : IsYielding shelf h g new v p remove next
    unlogging = record {
      alike = alike;
      has_group = has_group;
      keeps = keeps;
      plan = plan;
      base = new.base;
      finished = records.finished;
      before = r;
      after = r;
      puts = record { ordered = ordered; was = there; entries = entries; puts = puts; same = same_then };
      moves = moves_none;
      whole = place.placed.runs.whole;
      off = inr (record { none = none; same = refl });
    }
