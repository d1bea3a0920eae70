-- Volumes that are started, read and written hold no header.
use Rattle.std.proofs.Common.{◌≡◌, ◌⊎◌, ℕ, ◌+◌, ◌-◌, ◌*◌, ◌/◌, ◌≤◌, max, min, nat_lt, nat_le, arith, true, false, Bool, cond, List, [], ◌∷◌, Option, Some, None, MatchOption, MatchBool, refl, sym, ◌∙◌, ap, subst, inl, inr}
use Rattle.std.proofs.lemmas.Bool.{and_parts, leb-true}
use Rattle.vx_base.specs.Blocks.{Contents, block_at, is_in}
use Rattle.vx_base.specs.Named.{Word, put}
use Rattle.vx_base.proofs.NamedLemmas.{put_same, put_other, name_cases}
use Rattle.vx_block.specs.Regions.{part_at}
use Rattle.vx_block.specs.declared.geometry.Span.{Span}
use Rattle.vx_header.specs.Named.{header_of}
use Rattle.vx_life.specs.declared.EntryKind.{EntryKind}
use Rattle.vx_life.specs.declared.EntryKind.TheVariants as kinds
use Rattle.vx_life.specs.Candidates.{Values, Any, OneOf, IsAmong, or_also, Candidates}
use Rattle.vx_life.specs.Entry.{Entry, values_after, candidates_after, ReadsAmong}
use Rattle.vx_life.specs.Life.{Life, life_after, GoesOn}
use Rattle.vx_copies.specs.Lists.{AllOf}
use Rattle.vx_script_forms.specs.declared.call.Call.{Call}
use Rattle.vx_script_forms.specs.declared.call.Call.TheVariants as calls
use Rattle.vx_answers.specs.declared.answer.End.{End}
use Rattle.vx_answers.specs.declared.answer.End.TheVariants as ends
use Rattle.vx_answers.specs.declared.refusal.Refusal.TheVariants.{NotStarted, Range}
use Rattle.vx_moments.specs.World.{World, Device, Volume, Member, Group, Lies, OnDevice, OnPlexes}
use Rattle.vx_moments.specs.Owners.{owners_of}
use Rattle.vx_moments.specs.Tracks.{volume_failed}
use Rattle.vx_moments.proofs.Tracked.{goes_lies}
use Rattle.vx_moments.specs.Moment.{Moment, Rests}
use Rattle.vx_moments.specs.Holding.{IsLent, IsMemberDevice, HasDevice, has_volume}
use Rattle.vx_moments.specs.Leaving.{lone, lone_by}
use Rattle.vx_moments.proofs.Lone.{lone_stays}
use Rattle.vx_mask.proofs.Tests.{not_both}
use Rattle.vx_stages.specs.Calls.{volume_of, start_of, count_of, values_of, done_kind, failed_kind, AreParts, IsOf, AreOf, Tells}
use Rattle.vx_stages.specs.GroupCalls.{BecomesBy, IsServedOnPlexes, is_known}
use Rattle.vx_plans.specs.Serving.{CallRuns, ServesOn}
use Rattle.vx_stages.specs.Stages.{IsBare, bare_volume, HasNoHeader}
use Rattle.vx_sound.specs.Laws.{CallWritesNoHeader}
use Rattle.vx_sound.specs.Standing.{HoldsNoHeader, HoldsNoneOn, IsStanding, NamesAreApart}
use Rattle.vx_sound.proofs.Headers.{none_filled, never_some, some_same}
use Rattle.vx_sound.proofs.Fewer.{HadEach, HasOrNone}
use Rattle.vx_sound.proofs.Lists.{all_from, all_imp, all_without}
use Rattle.vx_sound.proofs.Private.{IsSameFront, behind_private, standing_behind}
use Rattle.vx_sound.proofs.Settlement.{MemberStays, standing_still}

-- ---- a volume is started

module _ (w : World) (vol name : Word) (device : Device) (free : w.volumes vol ≡ None) (unrecorded : has_volume w.group vol ≡ false) (was : w.devices name ≡ Some device) (blank : header_of (device.contents 0) ≡ None) (idle : IsMemberDevice w.group name → ⊥) where
  abbrev after : World
  after = record w { volumes = put vol (Some (bare_volume name device)) w.volumes }

  lent_still : (other : Word) → IsLent w other → IsLent after other
  lent_still other (v, volume, is, lies) = elim (name_cases vol v) [
    | inl same ↦ never_some (w.volumes vol) volume free (ap (λ (n : Word). w.volumes n) same ∙ is)
    | inr differ ↦ (v, volume, put_other vol v (Some (bare_volume name device)) w.volumes differ ∙ is, lies)
  ]

  lent_now : (other : Word) → IsLent after other → IsLent w other ⊎ (name ≡ other)
  lent_now other (v, volume, is, lies) = elim (name_cases vol v) [
    | inl same ↦
        let here : bare_volume name device ≡ volume = some_same (bare_volume name device) volume (sym (put_same vol (Some (bare_volume name device)) w.volumes) ∙ ap (λ (n : Word). put vol (Some (bare_volume name device)) w.volumes n) same ∙ is) in
        inr (subst (λ (x : Volume). HasDevice x.lies other) (sym here) lies)
    | inr differ ↦ inl (v, volume, sym (put_other vol v (Some (bare_volume name device)) w.volumes differ) ∙ is, lies)
  ]

  back : (dg : Word) → HadEach dg w after
  back dg other slot d h = record { device = h.device; apart = λ lent. h.apart (lent_still other lent); label = h.label; header = h.header; group = h.group; slot_is = h.slot_is; size = h.size }

  fore : (dg : Word) → HasOrNone dg w after
  fore dg other slot d h = inl (record {
    device = h.device;
    apart = λ lent. elim (lent_now other lent) [
      | inl before ↦ h.apart before
      | inr here ↦
          let same : device ≡ d = some_same device d (sym was ∙ ap (λ (n : Word). w.devices n) here ∙ h.device) in
          never_some (header_of (device.contents 0)) h.label blank (ap (λ (x : Device). header_of (x.contents 0)) same ∙ h.header)
    ];
    label = h.label;
    header = h.header;
    group = h.group;
    slot_is = h.slot_is;
    size = h.size;
  })

  member_stays : (m : Member) → (m.device ≡ name → ⊥) → MemberStays w after m
  member_stays m differs = record { device = refl; apart = λ lent. elim (lent_now m.device lent) [ inl before ↦ before | inr here ↦ absurd (differs (sym here)) ] }

  members_stay : (g : Option Group) → (IsMemberDevice g name → ⊥) → MatchOption g (Unit {0}) (λ g. AllOf (MemberStays w after) g.members)
  members_stay None idle = tt
  members_stay (Some g) idle = all_imp (λ m. m.device ≡ name → ⊥) (MemberStays w after) g.members member_stays (all_without (λ m. m.device ≡ name) g.members idle)

  bare_holds : HoldsNoHeader (bare_volume name device)
  bare_holds value (inl same) = ap header_of same ∙ blank
  bare_holds value (inr none) = absurd none

  names_after : NamesAreApart w → NamesAreApart after
  names_after names v h = elim (name_cases vol v) [
    | inl same ↦ not_both h (ap (λ (n : Word). has_volume w.group n) (sym same) ∙ unrecorded)
    | inr differ ↦ ap lone (put_other vol v (Some (bare_volume name device)) w.volumes differ) ∙ names v h
  ]

  pub standing_started : IsStanding w → IsStanding after
  standing_started s = standing_still w after (record { had = back; stays = fore; group = refl; members = members_stay w.group idle }) s (names_after s.names) (λ v volume is. elim (name_cases vol v) [
    | inl same ↦ subst HoldsNoHeader (some_same (bare_volume name device) volume (sym (put_same vol (Some (bare_volume name device)) w.volumes) ∙ ap (λ (n : Word). put vol (Some (bare_volume name device)) w.volumes n) same ∙ is)) bare_holds
    | inr differ ↦ s.volumes v volume (sym (put_other vol v (Some (bare_volume name device)) w.volumes differ) ∙ is)
  ])

pub bare_back : (vol name : Word) (old new : World) → old.volumes vol ≡ None → has_volume old.group vol ≡ false → HasNoHeader old name → (IsMemberDevice old.group name → ⊥) → IsBare vol name old new → (dg : Word) → HadEach dg old new
bare_back vol name old new free unrecorded (d, is, blank) idle made dg =
    let same : d ≡ made.device = some_same d made.device (sym is ∙ made.was) in
    subst (HadEach dg old) (sym made.is) (back old vol name made.device free unrecorded made.was (ap (λ (x : Device). header_of (x.contents 0)) (sym same) ∙ blank) idle dg)

pub standing_bare : (vol name : Word) (old new : World) → IsStanding old → old.volumes vol ≡ None → has_volume old.group vol ≡ false → HasNoHeader old name → (IsMemberDevice old.group name → ⊥) → IsBare vol name old new → IsStanding new
standing_bare vol name old new s free unrecorded (d, is, blank) idle made =
    let same : d ≡ made.device = some_same d made.device (sym is ∙ made.was) in
    subst IsStanding (sym made.is) (standing_started old vol name made.device free unrecorded made.was (ap (λ (x : Device). header_of (x.contents 0)) (sym same) ∙ blank) idle s)

-- ---- a volume lives on

-- none of the values is a header
abbrev AreNoHeaders : Values → Type 0
AreNoHeaders values = (value : List ℕ) → IsAmong values value → header_of value ≡ None

-- an entry puts no header at the front
record IsHeaderless (e : Entry) : Type 0 where
  written : e.kind ≡ kinds.Write → is_in e.start e.count 0 ≡ true → header_of (e.values 0) ≡ None
  torn : e.kind ≡ kinds.Torn → is_in e.start e.count 0 ≡ true → header_of (e.values 0) ≡ None

one_value : (value : List ℕ) → header_of value ≡ None → AreNoHeaders (OneOf (value ∷ []))
one_value value none other (inl same) = ap header_of same ∙ none
one_value value none other (inr never) = absurd never

also_none : (value : List ℕ) (values : Values) → header_of value ≡ None → AreNoHeaders values → AreNoHeaders (or_also value values)
also_none value Any none was other is = was other is
also_none value (OneOf values) none was other (inl same) = ap header_of same ∙ none
also_none value (OneOf values) none was other (inr more) = was other more

entry_keeps : (e : Entry) (candidates : Candidates) → IsHeaderless e → ReadsAmong e.kind candidates e → AreNoHeaders (candidates 0) → AreNoHeaders (candidates_after e candidates 0)
entry_keeps e candidates less reads was = by (is_in e.start e.count 0) refl
  where
    of_kind : is_in e.start e.count 0 ≡ true → (kind : EntryKind) → e.kind ≡ kind → ReadsAmong kind candidates e → AreNoHeaders (values_after kind (e.values 0) (candidates 0))
    of_kind here kinds.Read is among = one_value (e.values 0) (was (e.values 0) (among 0 here))
    of_kind here kinds.Write is among = one_value (e.values 0) (less.written is here)
    of_kind here kinds.Torn is among = also_none (e.values 0) (candidates 0) (less.torn is here) was
    of_kind here kinds.Missed is among = was

    by : (b : Bool) → is_in e.start e.count 0 ≡ b → AreNoHeaders (cond b (values_after e.kind (e.values 0) (candidates 0)) (candidates 0))
    by true here = of_kind here e.kind refl reads
    by false here = was

life_keeps : (es : List Entry) (old new : Life) → AllOf IsHeaderless es → GoesOn old es new → AreNoHeaders (old.candidates 0) → AreNoHeaders (new.candidates 0)
life_keeps [] old new less goes was = subst (λ (l : Life). AreNoHeaders (l.candidates 0)) (sym goes) was
life_keeps (e ∷ es) old new less goes was = life_keeps es (life_after e old) new less.1 goes.1 (entry_keeps e old.candidates less.0 goes.0.reads was)

-- values of this kind from a block on put no header at the front
abbrev WritesNone : ℕ → EntryKind → Contents → Type 0
WritesNone start kinds.Write values = start ≡ 0 → header_of (values 0) ≡ None
WritesNone start kinds.Torn values = start ≡ 0 → header_of (values 0) ≡ None
WritesNone start kinds.Read values = Unit {0}
WritesNone start kinds.Missed values = Unit {0}

headerless : (place start : ℕ) (kind : EntryKind) (values : Contents) (e : Entry) → WritesNone start kind values → start ≤ e.start → IsOf place kind values e → IsHeaderless e
headerless place start kind values e none from of = record {
  written = λ is here. ap header_of (of.values_are 0 here) ∙ subst (λ (k : EntryKind). WritesNone start k values) (sym of.kind_is ∙ is) none (front here);
  torn = λ is here. ap header_of (of.values_are 0 here) ∙ subst (λ (k : EntryKind). WritesNone start k values) (sym of.kind_is ∙ is) none (front here);
}
  where
    front : is_in e.start e.count 0 ≡ true → start ≡ 0
    front here = omega (arith, from, leb-true e.start 0 (and_parts (nat_le e.start 0) _ here).0)

-- a part of a range begins in it
begins_in : (size start count index : ℕ) (span : Span) → part_at size start count index ≡ Some span → start ≤ span.start
begins_in size start count index span is = by (nat_lt first end) is
  where
    first : ℕ
    first = max start ((start / size + index) * size)

    end : ℕ
    end = min (start + count) ((start / size + index) * size + size)

    by : (b : Bool) → cond b (Some (let s : Span = record { start = first; count = end - first } in s)) None ≡ Some span → start ≤ span.start
    by true is = let here = ap (λ (s : Span). s.start) (some_same _ span is) in omega (arith, here)
    by false is = cc

all_headerless : (place size start count index : ℕ) (kind : EntryKind) (values : Contents) (es : List Entry) → WritesNone start kind values → AreParts size start count index es → AreOf place kind values es → AllOf IsHeaderless es
all_headerless place size start count index kind values [] none parts of = tt
all_headerless place size start count index kind values (e ∷ es) none parts of =
    (headerless place start kind values e none (begins_in size start count index _ parts.0.range) of.0, all_headerless place size start count (index + 1) kind values es none parts.1 of.1)

front_of : (start : ℕ) (blocks : List ℕ) → start ≡ 0 → block_at blocks (0 - start) ≡ block_at blocks 0
front_of start blocks zero = let here : 0 - start ≡ 0 = omega arith in ap (block_at blocks) here

done_none : (call : Call) (printed : List ℕ) → CallWritesNoHeader call → WritesNone (start_of call) (done_kind call) (values_of call printed)
done_none (calls.Read vol start count) printed none = tt
done_none (calls.Fill vol start count byte) printed none = λ zero. none_filled byte
done_none (calls.Data vol start blocks) printed none = λ zero. ap header_of (front_of start blocks zero) ∙ none zero

failed_none : (call : Call) → CallWritesNoHeader call → WritesNone (start_of call) (failed_kind call) (values_of call [])
failed_none (calls.Read vol start count) none = tt
failed_none (calls.Fill vol start count byte) none = λ zero. none_filled byte
failed_none (calls.Data vol start blocks) none = λ zero. ap header_of (front_of start blocks zero) ∙ none zero

told_headerless : (place : ℕ) (call : Call) (v : Volume) (end : End) (es : List Entry) → CallWritesNoHeader call → AreParts v.region (start_of call) (count_of call) 0 es → Tells place call v end es → AllOf IsHeaderless es
told_headerless place call v (ends.Done copied parts blocks) es none are tells = all_headerless place v.region (start_of call) (count_of call) 0 (done_kind call) (values_of call blocks) es (done_none call blocks none) are tells.2.each
told_headerless place call v (ends.Fault told device parts) es none are tells = all_headerless place v.region (start_of call) (count_of call) 0 (failed_kind call) (values_of call []) es (failed_none call none) are tells.1
told_headerless place call v (ends.Lost parts) es none are tells = all_headerless place v.region (start_of call) (count_of call) 0 (failed_kind call) (values_of call []) es (failed_none call none) are tells.1
told_headerless place call v (ends.Refused refusal) es none are tells = absurd tells
told_headerless place call v ends.ShelfFailed es none are tells = absurd tells
told_headerless place call v ends.GroupLost es none are tells = absurd tells

module _ (w : World) (vol : Word) (v : Volume) (life : Life) (was : w.volumes vol ≡ Some v) (holds : HoldsNoHeader (let x : Volume = record v { life = life } in x)) where
  abbrev on : World
  on = record w { volumes = put vol (Some (record v { life = life })) w.volumes }

  lent_on : (other : Word) → IsLent w other → IsLent on other
  lent_on other (u, volume, is, lies) = elim (name_cases vol u) [
    | inl same ↦
        let here : v ≡ volume = some_same v volume (sym was ∙ ap (λ (n : Word). w.volumes n) same ∙ is) in
        (vol, record v { life = life }, put_same vol (Some (record v { life = life })) w.volumes, subst (λ (x : Volume). HasDevice x.lies other) (sym here) lies)
    | inr differ ↦ (u, volume, put_other vol u (Some (record v { life = life })) w.volumes differ ∙ is, lies)
  ]

  lent_before : (other : Word) → IsLent on other → IsLent w other
  lent_before other (u, volume, is, lies) = elim (name_cases vol u) [
    | inl same ↦
        let here : record v { life = life } ≡ volume = some_same (record v { life = life }) volume (sym (put_same vol (Some (record v { life = life })) w.volumes) ∙ ap (λ (n : Word). put vol (Some (record v { life = life })) w.volumes n) same ∙ is) in
        (vol, v, was, subst (λ (x : Volume). HasDevice x.lies other) (sym here) lies)
    | inr differ ↦ (u, volume, sym (put_other vol u (Some (record v { life = life })) w.volumes differ) ∙ is, lies)
  ]

  on_back : (dg : Word) → HadEach dg w on
  on_back dg other slot d h = record { device = h.device; apart = λ lent. h.apart (lent_on other lent); label = h.label; header = h.header; group = h.group; slot_is = h.slot_is; size = h.size }

  on_fore : (dg : Word) → HasOrNone dg w on
  on_fore dg other slot d h = inl (record { device = h.device; apart = λ lent. h.apart (lent_before other lent); label = h.label; header = h.header; group = h.group; slot_is = h.slot_is; size = h.size })

  on_members : (g : Option Group) → MatchOption g (Unit {0}) (λ g. AllOf (MemberStays w on) g.members)
  on_members None = tt
  on_members (Some g) = all_from (MemberStays w on) g.members (λ m. record { device = refl; apart = lent_before m.device })

  same_lone : (lies : Lies) → lone_by lies v ≡ None → lone_by lies (record v { life = life }) ≡ None
  same_lone (OnDevice device) none = cc
  same_lone (OnPlexes plexes) none = refl

  on_names : NamesAreApart w → NamesAreApart on
  on_names names u h = elim (name_cases vol u) [
    | inl same ↦
        let before : lone (Some v) ≡ None = ap lone (sym was ∙ ap (λ (n : Word). w.volumes n) same) ∙ names u h in
        ap lone (ap (λ (n : Word). put vol (Some (record v { life = life })) w.volumes n) (sym same) ∙ put_same vol (Some (record v { life = life })) w.volumes) ∙ same_lone v.lies before
    | inr differ ↦ ap lone (put_other vol u (Some (record v { life = life })) w.volumes differ) ∙ names u h
  ]

  pub standing_on : IsStanding w → IsStanding on
  standing_on s = standing_still w on (record { had = on_back; stays = on_fore; group = refl; members = on_members w.group }) s (on_names s.names) (λ u volume is. elim (name_cases vol u) [
    | inl same ↦ subst HoldsNoHeader (some_same (record v { life = life }) volume (sym (put_same vol (Some (record v { life = life })) w.volumes) ∙ ap (λ (n : Word). put vol (Some (record v { life = life })) w.volumes n) same ∙ is)) holds
    | inr differ ↦ s.volumes u volume (sym (put_other vol u (Some (record v { life = life })) w.volumes differ) ∙ is)
  ])

-- ---- a volume on plexes of the group

-- a volume on plexes is not there without the group
pub lone_plexes : (v : Volume) (plexes : List Word) → v.lies ≡ OnPlexes plexes → lone (Some v) ≡ None
lone_plexes v plexes is = ap (λ l. lone_by l v) is

-- Devices have changed behind their private regions alone, and one volume that lies on no whole device is another, on plexes, or is gone.
module _ (vol : Word) (there : Word → Option Device) (later : Option Volume) (old : World) (was : lone (old.volumes vol) ≡ None) (is_lone : lone later ≡ None) (devices : (name : Word) → IsSameFront (old.devices name) (there name)) where
  abbrev now : World
  now = record old { devices = there; volumes = put vol later old.volumes }

  -- such a volume has no whole device
  never : (o : Option Volume) (u : Volume) (name : Word) → lone o ≡ None → o ≡ Some u → HasDevice u.lies name → ⊥
  never o u name none is has = never_some (lone o) u none (lone_stays o u name is has)

  lent_before_it : (other : Word) → IsLent now other → IsLent old other
  lent_before_it other (u, volume, is, has) = elim (name_cases vol u) [
    | inl same ↦ absurd (never later volume other is_lone (sym (put_same vol later old.volumes) ∙ ap (λ (n : Word). put vol later old.volumes n) same ∙ is) has)
    | inr differ ↦ (u, volume, sym (put_other vol u later old.volumes differ) ∙ is, has)
  ]

  pub lent_after_it : (other : Word) → IsLent old other → IsLent now other
  lent_after_it other (u, volume, is, has) = elim (name_cases vol u) [
    | inl same ↦ absurd (never (old.volumes vol) volume other was (ap (λ (n : Word). old.volumes n) same ∙ is) has)
    | inr differ ↦ (u, volume, put_other vol u later old.volumes differ ∙ is, has)
  ]

  names_now : NamesAreApart old → NamesAreApart now
  names_now names u h = elim (name_cases vol u) [
    | inl same ↦ ap lone (ap (λ (n : Word). put vol later old.volumes n) (sym same) ∙ put_same vol later old.volumes) ∙ is_lone
    | inr differ ↦ ap lone (put_other vol u later old.volumes differ) ∙ names u h
  ]

  -- it holds no header, as it has no device
  no_header : (o : Option Volume) (u : Volume) → lone o ≡ None → o ≡ Some u → HoldsNoHeader u
  no_header o u none is = by u.lies refl
    where
      by : (lies : Lies) → u.lies ≡ lies → HoldsNoneOn lies u
      by (OnDevice device) lies = absurd (never o u device none is (subst (λ l. HasDevice l device) (sym lies) refl))
      by (OnPlexes plexes) lies = tt

  pub standing_goes : IsStanding old → IsStanding now
  standing_goes s = standing_behind old now (record { devices = devices; lent = lent_before_it }) lent_after_it refl s (names_now s.names)
      (λ u volume is. elim (name_cases vol u) [
        | inl same ↦ no_header later volume is_lone (sym (put_same vol later old.volumes) ∙ ap (λ (n : Word). put vol later old.volumes n) same ∙ is)
        | inr differ ↦ s.volumes u volume (sym (put_other vol u later old.volumes differ) ∙ is)
      ])

module _ (place : ℕ) (call : Call) (plexes : List Word) (v : Volume) (old : Moment) (end : End) (new : Moment) (was : old.world.volumes (volume_of call) ≡ Some v) (lies : v.lies ≡ OnPlexes plexes) (done : IsServedOnPlexes place call plexes v old end new) where
  abbrev vol : Word
  vol = volume_of call

  -- it lies where it did
  pub later_lies : done.later.lies ≡ OnPlexes plexes
  later_lies = by (is_known place v) done.becomes
    where
      by : (known : Bool) → BecomesBy known place call done.group plexes v old.counts new.counts end done.later → done.later.lies ≡ OnPlexes plexes
      by true lives = ap (λ (x : Volume). x.lies) lives.is ∙ goes_lies (owners_of done.group vol plexes) lives.entries (volume_failed (owners_of done.group vol plexes) lives.failed v) ∙ lies
      by false is = ap (λ (x : Volume). x.lies) is ∙ lies

  pub standing_plexes : IsStanding old.world → IsStanding new.world
  standing_plexes s = subst IsStanding (sym done.world)
      (standing_goes vol new.world.devices (Some done.later) old.world (ap lone was ∙ lone_plexes v plexes lies) (lone_plexes done.later plexes later_lies)
      (λ name. behind_private done.group vol name (old.world.devices name) (new.world.devices name) (done.changes name)) s)

-- a call leaves the world sound
pub standing_served : (place : ℕ) (call : Call) (old : Moment) (end : End) (new : Moment) → CallWritesNoHeader call → IsStanding old.world → CallRuns place call old end new → IsStanding new.world
standing_served place call old end new none s runs = by (old.world.volumes (volume_of call)) refl runs
  where
    served : (v : Volume) → old.world.volumes (volume_of call) ≡ Some v → (lies : Lies) → v.lies ≡ lies → ServesOn lies place call v old end new → IsStanding new.world
    served v is (OnDevice device) on done =
        let less = told_headerless place call v end done.lives.entries none done.lives.parts done.lives.told in
        let before : AreNoHeaders (v.life.candidates 0) = subst (λ l. HoldsNoneOn l v) on (s.volumes (volume_of call) v is) in
        let after : AreNoHeaders (done.life.candidates 0) = life_keeps done.lives.entries v.life done.life less done.lives.goes_on before in
        subst IsStanding (sym done.world)
        (standing_on old.world (volume_of call) v done.life is (subst (λ l. HoldsNoneOn l (let x : Volume = record v { life = done.life } in x)) (sym on) after) s)
    served v is (OnPlexes plexes) on done = standing_plexes place call plexes v old end new is on done s

    in_range : (v : Volume) → old.world.volumes (volume_of call) ≡ Some v → (b : Bool) → MatchBool b ((end ≡ ends.Refused Range) × Rests old new) (ServesOn v.lies place call v old end new) → IsStanding new.world
    in_range v is true refused = subst IsStanding (sym refused.1.stays.world) s
    in_range v is false done = served v is v.lies refl done

    by : (o : Option Volume) → old.world.volumes (volume_of call) ≡ o
        → MatchOption o ((end ≡ ends.Refused (NotStarted (volume_of call))) × Rests old new) (λ v. MatchBool (nat_lt v.length (start_of call + count_of call)) ((end ≡ ends.Refused Range) × Rests old new) (ServesOn v.lies place call v old end new))
        → IsStanding new.world
    by None is refused = subst IsStanding (sym refused.1.stays.world) s
    by (Some v) is h = in_range v is (nat_lt v.length (start_of call + count_of call)) h
