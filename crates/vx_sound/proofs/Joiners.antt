-- A disk that joins, and a group that is made, are ready to be written: the search has found no other device of the group.
use Rattle.std.proofs.Common.{◌≡◌, ◌⊎◌, ℕ, zero, suc, ◌+◌, ◌<◌, ◌≤◌, ◌==◌, ◌||◌, not, nat_lt, true, false, Bool, List, [], ◌∷◌, ◌++◌, Option, Some, None, refl, sym, ◌∙◌, ap, subst, inl, inr, arith}
use Rattle.std.specs.Prelude.{if◌then◌else◌, IsSome}
use Rattle.std.specs.List.{list_any, list_all}
use Rattle.std.specs.Str.{bytes_eq}
use Rattle.std.proofs.lemmas.Bool.{eqb-true}
use Rattle.std.proofs.lemmas.Bool.Decides.{nat_tests}
use Rattle.vx_base.specs.Named.{Word}
use Rattle.vx_base.proofs.NamedLemmas.{bytes_eq_self, bytes_eq_same}
use Rattle.vx_mask.specs.Mask.{has}
use Rattle.vx_mask.proofs.MaskLemmas.{has-zero}
use Rattle.vx_mask.proofs.Tests.{not_both, or_cases, true_or_false}
use Rattle.vx_header.specs.Named.{Label, header_of}
use Rattle.vx_header.specs.Sectors.{is_short_name}
use Rattle.vx_copies.specs.Image.{names_group}
use Rattle.vx_copies.specs.Lists.{AllOf, AnyOf}
use Rattle.vx_objects.specs.declared.config.Config.{Config}
use Rattle.vx_script_words.specs.declared.value.DiskAt.{DiskAt}
use Rattle.vx_config_parts.specs.declared.fault.Limit.TheVariants as limit
use Rattle.vx_answers.specs.declared.refusal.Refusal.TheVariants as refusal
use Rattle.vx_moments.specs.World.{World, Device, Member, Group}
use Rattle.vx_moments.specs.Commit.{Writing, is_slot_of}
use Rattle.vx_moments.specs.Holding.{IsHeld, IsMemberDevice, is_among}
use Rattle.vx_stages.specs.Records.{devices_of, names_of, disk_record, member_at, next_slot, free_slot_from, slot_or_last, slot_in, new_members, are_disk_sized, sectors_at}
use Rattle.vx_stages.specs.Stages.{IsFree, AreFree, AreBlank, HasNoHeader, NamesGroup, IsJoining, IsCreating}
use Rattle.vx_stages.specs.Tests.{fails, limit_passed, unless}
use Rattle.vx_stages.specs.declared.test.Test.TheVariants as tests
use Rattle.vx_sound.specs.Offers.{IsHeaded}
use Rattle.vx_sound.specs.Standing.{IsOwn}
use Rattle.vx_sound.proofs.Headers.{never_some, some_same}
use Rattle.vx_sound.proofs.Configs.{Records}
use Rattle.vx_sound.proofs.Edits.{IsGrown, join_grown, join_records, new_group, new_recorded}
use Rattle.vx_sound.proofs.Lists.{all_imp, all_two, all_join, one_of, any_test, any_or_none}
use Rattle.vx_sound.proofs.Ready.{IsReady, IsBlank, IsVacant, IsNew, IsHeadedAs}
use Rattle.vx_sound.proofs.ReadyToWrite.{IsLed, led_on}
use Rattle.vx_sound.proofs.DevicesAfterCommit.{same_or_not}

-- ---- what the stages before have found

-- the search has found no device of the group
abbrev pub HasSearched : Word → World → List Word → Type 0
HasSearched dg w taken = (name : Word) → IsFree w taken name → NamesGroup dg w name → ⊥

pub all_unheld : (w : World) (taken names : List Word) → AreFree w taken names → AllOf (λ n. IsHeld w n → ⊥) names
all_unheld w taken [] free = tt
all_unheld w taken (name ∷ names) free = (free.0.1.0, all_unheld w (taken ++ name ∷ []) names free.1)

pub all_blank : (w : World) (names : List Word) → AreBlank w names → AllOf (HasNoHeader w) names
all_blank w [] blank = tt
all_blank w (name ∷ names) blank = (blank.0, all_blank w names blank.1)

-- so a device with a header of the group is a member's
pub none_else : (dg : Word) (w : World) (taken : List Word) → AllOf (HasNoHeader w) taken → HasSearched dg w taken → (name : Word) (slot : ℕ) (d : Device) → IsHeaded dg w name slot d → (IsMemberDevice w.group name → ⊥) → ⊥
none_else dg w taken blank searched name slot d h idle = elim (true_or_false (is_among name taken)) [
  | inl among ↦
      let one = one_of (HasNoHeader w) (λ n. bytes_eq n name ≡ true) taken blank (any_test (λ n. bytes_eq n name) taken among) in
      let same : one.1.0 ≡ d = some_same one.1.0 d (sym one.1.1 ∙ ap (λ (n : Word). w.devices n) (bytes_eq_same one.0 name one.2) ∙ h.device) in
      never_some (header_of (d.contents 0)) h.label (ap (λ (e : Device). header_of (e.contents 0)) (sym same) ∙ one.1.2) h.header
  | inr away ↦
      searched name (there, ((λ held. elim held [ inl lent ↦ h.apart lent | inr member ↦ idle member ]), away))
      (d, h.device, ap (names_group dg) h.header ∙ ap (λ (g : Word). bytes_eq g dg) h.group ∙ bytes_eq_self dg)
]
  where
    there : IsSome (w.devices name)
    there = subst (λ (o : Option Device). IsSome o) (sym h.device) refl

-- ---- the next slot

free_from : (n slot s : ℕ) (config : Config) → free_slot_from n slot config ≡ Some s → list_any (λ d. d.slot == s) config.disks ≡ false
free_from zero slot s config e = never_some None s refl e
free_from (suc n) slot s config e = by (list_any (λ d. d.slot == slot) config.disks) refl e (free_from n (slot + 1) s config)
  where
    by : (b : Bool) → list_any (λ d. d.slot == slot) config.disks ≡ b → (if b then free_slot_from n (slot + 1) config else Some slot) ≡ Some s → (free_slot_from n (slot + 1) config ≡ Some s → list_any (λ d. d.slot == s) config.disks ≡ false) → list_any (λ d. d.slot == s) config.disks ≡ false
    by true is e more = more e
    by false is e more = subst (λ (t : ℕ). list_any (λ d. d.slot == t) config.disks ≡ false) (some_same slot s e) is

-- no disk has it
pub next_free : (config : Config) → next_slot config < 32 → Records config (next_slot config) → ⊥
unfolding next_slot
next_free config low is = by (free_slot_from 32 0 config) refl low is
  where
    by : (o : Option ℕ) → free_slot_from 32 0 config ≡ o → slot_or_last o < 32 → Records config (slot_or_last o) → ⊥
    by None e low is = omega arith
    by (Some s) e low is = not_both is (free_from 32 0 s config e)

else_none : {X : Type 0} (b : Bool) (a : X) (rest : Option X) → (if b then Some a else rest) ≡ None → (b ≡ false) × (rest ≡ None)
else_none true a rest e = never_some None a refl (sym e)
else_none false a rest e = (refl, e)

few : (count : ℕ) → nat_lt 32 count ≡ false → count ≤ 32
few count e = grind (arith, nat_tests)

-- so many disks are allowed
pub room_for : (disks : List DiskAt) (w : World) (g : Group) → w.group ≡ Some g → fails tests.JoinLimits disks w ≡ None → next_slot g.config < 32
unfolding fails
room_for disks w g here passed =
    let known : limit_passed (next_slot g.config + 1) (names_of disks) (are_disk_sized w (devices_of disks)) ≡ None = subst (λ (o : Option Group). limit_passed (slot_in o + 1) (names_of disks) (are_disk_sized w (devices_of disks)) ≡ None) here passed in
    let sized = else_none (not (are_disk_sized w (devices_of disks))) (refusal.DeviceLimit) (if nat_lt 32 (next_slot g.config + 1) then Some (refusal.Limit limit.Disks) else unless (list_all is_short_name (names_of disks)) (refusal.Limit limit.Name)) known in
    let in_room = else_none (nat_lt 32 (next_slot g.config + 1)) (refusal.Limit limit.Disks) (unless (list_all is_short_name (names_of disks)) (refusal.Limit limit.Name)) sized.1 in
    let low = few (next_slot g.config + 1) in_room.0 in
    omega arith

-- ---- a disk joins

module _ (p : DiskAt) (dg : Word) (w : World) (x : Writing) (j : IsJoining p w x) (l : IsLed x.group.config.group w x.group) (room : next_slot x.group.config < 32)
    (here : x.group.config.group ≡ dg) (unheld : IsHeld w p.device → ⊥) (blank : HasNoHeader w p.device) (searched : HasSearched dg w (p.device ∷ [])) where
  grown : IsGrown x.group.config x.config
  grown = join_grown (disk_record p (next_slot x.group.config) (sectors_at w p.device)) x.group.config x.config j.edited

  ready_led : IsLed x.config.group w x.group
  ready_led = led_on x w l grown

  -- no member has the slot, and no offer names it
  not_recorded : Records x.group.config (next_slot x.group.config) → ⊥
  not_recorded is = next_free x.group.config room is

  -- a device of the group is a member's, whose slot is recorded
  no_device : (name : Word) (d : Device) → IsHeaded x.config.group w name (next_slot x.group.config) d → ⊥
  no_device name d h = by (any_or_none (λ m. m.device ≡ name) x.group.members (λ m. same_or_not m.device name))
    where
      by : AnyOf (λ m. m.device ≡ name) x.group.members ⊎ (AnyOf (λ m. m.device ≡ name) x.group.members → ⊥) → ⊥
      by (inl any) =
          let one = one_of (λ m. IsOwn x.config.group w m × Records x.group.config m.slot) (λ m. m.device ≡ name) x.group.members
          (all_two (IsOwn x.config.group w) (λ m. Records x.group.config m.slot) (λ m. IsOwn x.config.group w m × Records x.group.config m.slot) x.group.members (λ m a b. (a, b)) ready_led.own ready_led.recorded) any in
          let own = one.1.0 in
          let same : d ≡ own.device = some_same d own.device (sym h.device ∙ ap (λ (n : Word). w.devices n) (sym one.2) ∙ own.is) in
          let label = own.header h.label (ap (λ (e : Device). header_of (e.contents 0)) (sym same) ∙ h.header) in
          not_recorded (subst (λ (s : ℕ). Records x.group.config s) (sym (ap (λ (k : Label). k.slot) label) ∙ h.slot_is) one.1.1)
      by (inr none) =
          none_else dg w (p.device ∷ []) (blank, tt) searched name (next_slot x.group.config) d
          (subst (λ (g : Word). IsHeaded g w name (next_slot x.group.config) d) (grown.group ∙ here) h)
          (λ member. none (subst (λ (o : Option Group). IsMemberDevice o name) j.group member))

  is_next : (slot : ℕ) → is_slot_of x.joiners slot ≡ true → next_slot x.group.config ≡ slot
  is_next slot joins =
      let one : (next_slot x.group.config == slot || false) ≡ true = ap (λ (ms : List Member). is_slot_of ms slot) (sym j.joiner) ∙ joins in
      elim (or_cases (next_slot x.group.config == slot) false one) [ inl same ↦ eqb-true (next_slot x.group.config) slot same | inr never ↦ cc ]

  of_joiner : (P : Member → Type 0) → P (member_at p (next_slot x.group.config)) → AllOf P x.joiners
  of_joiner P is = subst (λ (ms : List Member). AllOf P ms) (sym j.joiner) (is, tt)

  new_slot : Records x.config (next_slot x.group.config)
  new_slot = join_records (disk_record p (next_slot x.group.config) (sectors_at w p.device)) x.group.config x.config j.edited

  pub ready_join : IsReady x w
  ready_join = record {
    own = ready_led.own;
    good = ready_led.good;
    blank = of_joiner (IsBlank w) (record {
      apart = λ lent. unheld (inl lent);
      blank = λ d is. ap (λ (e : Device). header_of (e.contents 0)) (some_same d blank.0 (sym is ∙ blank.1)) ∙ blank.2;
    });
    newest = ready_led.newest;
    taken = ready_led.taken;
    recorded = all_join (λ m. Records x.config m.slot) x.group.members x.joiners (all_imp (λ m. Records x.group.config m.slot) (λ m. Records x.config m.slot) x.group.members (λ m is. grown.disks m.slot is) ready_led.recorded) (of_joiner (λ m. Records x.config m.slot) new_slot);
    written = λ slot is. elim (or_cases (has x.group.good slot) (is_slot_of x.joiners slot) is) [
      | inl good ↦ grown.disks slot (ready_led.masked slot good)
      | inr joins ↦ subst (λ (s : ℕ). Records x.config s) (is_next slot joins) new_slot
    ];
    offering = λ name slot o h. grown.disks slot (ready_led.offering name slot o h);
    named = λ name slot o h n is. grown.disks n (ready_led.named name slot o h n is);
    vacant = λ slot joins. subst (λ (s : ℕ). IsVacant x.config.group w s) (is_next slot joins) (record {
      none = no_device;
      unnamed = λ name place o h is. not_recorded (ready_led.named name place o h (next_slot x.group.config) is);
    });
    apart = all_imp (λ m. Records x.group.config m.slot) (λ m. is_slot_of x.joiners m.slot ≡ false) x.group.members
        (λ m is. elim (true_or_false (is_slot_of x.joiners m.slot)) [ inl joins ↦ absurd (not_recorded (subst (λ (s : ℕ). Records x.group.config s) (sym (is_next m.slot joins)) is)) | inr no_joiner ↦ no_joiner ]) ready_led.recorded;
    single = of_joiner (λ m. AllOf (λ n. m.slot ≡ n.slot → m.device ≡ n.device) x.joiners) (of_joiner (λ n. next_slot x.group.config ≡ n.slot → p.device ≡ n.device) (λ same. refl));
    carriers = inl j.carriers;
  }

-- ---- a group is made

new_blank : (w : World) (slot : ℕ) (ps : List DiskAt) → AllOf (λ n. IsHeld w n → ⊥) (devices_of ps) → AllOf (HasNoHeader w) (devices_of ps) → AllOf (IsBlank w) (new_members slot ps)
new_blank w slot [] unheld blank = tt
new_blank w slot (p ∷ ps) unheld blank = (one blank.0, new_blank w (slot + 1) ps unheld.1 blank.1)
  where
    one : HasNoHeader w p.device → IsBlank w (member_at p slot)
    one (d, is, none) = record { apart = λ lent. unheld.0 (inl lent); blank = λ e at. ap (λ (f : Device). header_of (f.contents 0)) (some_same e d (sym at ∙ is)) ∙ none }

slots_from : (least slot : ℕ) (ps : List DiskAt) → least ≤ slot → AllOf (λ m. least ≤ m.slot) (new_members slot ps)
slots_from least slot [] low = tt
slots_from least slot (p ∷ ps) low = (low, slots_from least (slot + 1) ps (omega (arith, low)))

abbrev AreSingle : Member → List Member → Type 0
AreSingle m ms = AllOf (λ n. m.slot ≡ n.slot → m.device ≡ n.device) ms

each_single : (slot : ℕ) (ps : List DiskAt) → AllOf (λ m. AreSingle m (new_members slot ps)) (new_members slot ps)
each_single slot [] = tt
each_single slot (p ∷ ps) =
    let rest = new_members (slot + 1) ps in
    let above : AllOf (λ m. slot + 1 ≤ m.slot) rest = slots_from (slot + 1) (slot + 1) ps (omega arith) in (
      ((λ same. refl), all_imp (λ m. slot + 1 ≤ m.slot) (λ n. slot ≡ n.slot → p.device ≡ n.device) rest (λ n low same. absurd (omega (arith, low, same))) above),
      all_two (λ m. slot + 1 ≤ m.slot) (λ m. AreSingle m rest) (λ m. AreSingle m (member_at p slot ∷ rest)) rest (λ m low single. ((λ same. absurd (omega (arith, low, same))), single)) above (each_single (slot + 1) ps),
    )

module _ (dg : Word) (pairs : List DiskAt) (w : World) (x : Writing) (k : IsCreating dg pairs w x) (none : w.group ≡ None)
    (unheld : AllOf (λ n. IsHeld w n → ⊥) (devices_of pairs)) (blank : AllOf (HasNoHeader w) (devices_of pairs)) (searched : HasSearched dg w (devices_of pairs)) where
  named : x.config.group ≡ dg
  named = new_group dg w pairs x.config k.records

  is_new : IsNew x.config.group w
  is_new name slot d h =
      none_else dg w (devices_of pairs) blank searched name slot d (subst (λ (g : Word). IsHeaded g w name slot d) named h)
      (λ member. subst (λ (o : Option Group). IsMemberDevice o name) none member)

  of_none : (P : Member → Type 0) → AllOf P x.group.members
  of_none P = subst (λ (g : Group). AllOf P g.members) (sym k.group) tt

  of_pairs : (P : Member → Type 0) → AllOf P (new_members 0 pairs) → AllOf P x.joiners
  of_pairs P is = subst (λ (ms : List Member). AllOf P ms) (sym k.joiners) is

  all_recorded : AllOf (λ m. Records x.config m.slot) x.joiners
  all_recorded = of_pairs (λ m. Records x.config m.slot) (new_recorded dg w pairs x.config k.records)

  pub ready_create : IsReady x w
  ready_create = record {
    own = of_none (IsOwn x.config.group w);
    good = of_none (λ m. has x.group.good m.slot ≡ true → IsHeadedAs x.config.group w m);
    blank = of_pairs (IsBlank w) (new_blank w 0 pairs unheld blank);
    newest = λ name slot o h. absurd (is_new name slot h.device h.headed);
    taken = λ name slot o h newest. absurd (is_new name slot h.device h.headed);
    recorded = all_join (λ m. Records x.config m.slot) x.group.members x.joiners (of_none (λ m. Records x.config m.slot)) all_recorded;
    written = λ slot is. elim (or_cases (has x.group.good slot) (is_slot_of x.joiners slot) is) [
      | inl good ↦ absurd (not_both good (ap (λ (g : Group). has g.good slot) k.group ∙ has-zero slot))
      | inr joins ↦
          let one = one_of (λ m. Records x.config m.slot) (λ m. (m.slot == slot) ≡ true) x.joiners all_recorded (any_test (λ m. m.slot == slot) x.joiners joins) in
          subst (λ (s : ℕ). Records x.config s) (eqb-true one.0.slot slot one.2) one.1
    ];
    offering = λ name slot o h. absurd (is_new name slot h.device h.headed);
    named = λ name slot o h n is. absurd (is_new name slot h.device h.headed);
    vacant = λ slot joins. record { none = λ name d h. is_new name slot d h; unnamed = λ name place o h is. is_new name place h.device h.headed };
    apart = of_none (λ m. is_slot_of x.joiners m.slot ≡ false);
    single = subst (λ (ms : List Member). AllOf (λ m. AreSingle m ms) ms) (sym k.joiners) (each_single 0 pairs);
    carriers = inr (k.carriers, is_new);
  }
