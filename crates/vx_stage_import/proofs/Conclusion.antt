-- What is answered of the devices that were found is what the definition of an import says.
use Rattle.std.proofs.Common.{◌≡◌, ◌∙◌, ◌&&◌, ◌==◌, ℕ, zero, suc, ◌<◌, ◌≤◌, ◌^◌, Bool, true, false, cond, not, nat_lt, List, [], ◌∷◌, take, length, Option, Some, None, refl, sym, ap, subst, arith, inl, inr}
use Rattle.std.specs.Prelude.{IfSome, IsTrue, MatchOption, MatchBool}
use Rattle.std.proofs.lemmas.Bool.{cond-true, cond-false, eq-eqb, ne_eqb, lt-ltb, le-ltb}
use Rattle.std.proofs.lemmas.Slice.Eq.{bytes_eq-Decides}
use Rattle.vx_base.specs.Blocks.{Contents}
use Rattle.vx_base.specs.Named.{Word}
use Rattle.vx_mask.specs.Mask.{has}
use Rattle.vx_header.specs.Named.{Label, header_of}
use Rattle.vx_header.specs.Said.{Said, toggle_of}
use Rattle.vx_copies.specs.Lists.{AllOf}
use Rattle.vx_copies.specs.Image.{Offer, offer_by, offer_of, offer_in, offer_if, names_group, toggle_at, highest}
use Rattle.vx_import.specs.Looks.{Looked, HasReading, IsReading, said_in, toggle_read}
use Rattle.vx_import.specs.Choice.{At, IfToggle, Tells}
use Rattle.vx_import.specs.Naming.{is_readable_slot, IsWhole}
use Rattle.vx_import.specs.Answers.{IsOf, IsChosen, IsLacking, IsEmpty, IsNoGroup, IsDamaged}
use Rattle.vx_import.specs.declared.naming.Damage.{Damage}
use Rattle.vx_answers.specs.declared.refusal.Refusal.{Refusal}
use Rattle.vx_objects.specs.declared.config.Config.{Config}
use Rattle.vx_answers.specs.declared.refusal.Refusal.TheVariants.{NoGroup, Damaged, Missing}
use Rattle.vx_moments.specs.World.{World}
use Rattle.vx_stages.specs.Finding.{Candidate, offers_of, first_that, is_damaged_one, is_taken_of, has_sequence, IsDamage, IsDiskOf, FindsText, FindsAll, FindsOffer, Finds}
use Rattle.vx_stage_import.specs.Finds.{contents_in, candidate_of, candidates_of}
use Rattle.vx_stage_import.proofs.Links.{IsLinked, offers_link, test_of, whole_link, IsHurtFirst, hurt_link, none_missing, one_missing}

in_group : (group : Word) (c : Contents) (label : Label) (s : Option Said) → header_of (c 0) ≡ Some label → label.group ≡ group → toggle_of (c 1) ≡ s → offer_in group c ≡ offer_by s c
unfolding offer_in offer_of toggle_at
in_group group c label s header is said =
    ap (λ l. offer_if (names_group group l) (offer_by (toggle_of (c 1)) c)) header
    ∙ ap (λ b. offer_if b (offer_by (toggle_of (c 1)) c)) ((bytes_eq-Decides label.group group).1 is)
    ∙ ap (λ o. offer_by o c) said

abbrev has_said : ℕ → Option Said → Bool
has_said sequence None = false
has_said sequence (Some t) = t.sequence == sequence

offer_said : (sequence : ℕ) (s : Option Said) (c : Contents) → has_sequence sequence (offer_by s c) ≡ has_said sequence s
offer_said sequence None c = refl
offer_said sequence (Some t) c = refl

module _ (group : Word) (unread : Word → Bool) where
  taken_link : (sequence : ℕ) (f : Looked) → IsLinked unread f → IsOf group f → HasReading f → is_taken_of group unread sequence (candidate_of f) ≡ has_said sequence (toggle_read f)
  taken_link sequence f is of reads =
      ap (λ b. not b && has_sequence sequence (offer_in group (contents_in f.seen.told))) is.unread_is
      ∙ by f.readable (λ e. ap (λ t. has_sequence sequence (offer_in group (contents_in t))) is.told
      ∙ ap (has_sequence sequence) (in_group group is.contents f.label (said_in f.reading) (subst (λ (o : Option Contents). IfSome o (λ d. header_of (d 0) ≡ Some f.label)) is.told of.headed) of.group_is (reading e).said)
      ∙ offer_said sequence (said_in f.reading) is.contents)
    where
      reading : IsTrue f.readable → IsReading f.reading (is.contents 1)
      reading e = subst (λ (o : Option Contents). IfSome o (λ d. IsReading f.reading (d 1))) is.told (reads e)

      by : (b : Bool) → (IsTrue b → has_sequence sequence (offer_in group (contents_in f.seen.told)) ≡ has_said sequence (said_in f.reading)) → (not (not b) && has_sequence sequence (offer_in group (contents_in f.seen.told))) ≡ has_said sequence (cond b (said_in f.reading) None)
      by true on = on refl
      by false on = refl

  lower_said : (sequence : ℕ) (s : Option Said) → MatchOption s (Unit {0}) (λ t. t.sequence < sequence) → has_said sequence s ≡ false
  lower_said sequence None is = refl
  lower_said sequence (Some t) is = ne_eqb t.sequence sequence (λ e. omega (arith, is, e))

  record IsTakenFirst (sequence : ℕ) (disk : Word) (cs : List Candidate) : Type 0 where
    first : Candidate
    is : first_that (is_taken_of group unread sequence) cs ≡ Some first
    disk_is : first.label.disk ≡ disk

  taken_first : (t : Said) (disk : Word) (fs : List Looked) → AllOf (IsLinked unread) fs → AllOf (IsOf group) fs → AllOf HasReading fs → (i : ℕ) → At i (λ f. toggle_read f ≡ Some t) fs → At i (λ f. f.label.disk ≡ disk) fs → AllOf (IfToggle (λ n. n < t.sequence)) (take i fs) → IsTakenFirst t.sequence disk (candidates_of fs)
  taken_first t disk [] all of reads i place at before = absurd place
  taken_first t disk (f ∷ fs) all of reads zero place at before = record {
    first = candidate_of f;
    is = cond-true _ _ _ (taken_link t.sequence f all.0 of.0 reads.0 ∙ ap (has_said t.sequence) place ∙ eq-eqb t.sequence t.sequence refl);
    disk_is = at;
  }
  taken_first t disk (f ∷ fs) all of reads (suc i) place at before =
      let rest = taken_first t disk fs all.1 of.1 reads.1 i place at before.1 in record {
        first = rest.first;
        is = cond-false _ _ _ (taken_link t.sequence f all.0 of.0 reads.0 ∙ lower_said t.sequence (toggle_read f) before.0) ∙ rest.is;
        disk_is = rest.disk_is;
      }

  all_tell : (fs : List Looked) → AllOf (IsLinked unread) fs → AllOf Tells fs
  all_tell [] all = tt
  all_tell (f ∷ fs) all = (subst (λ (o : Option Contents). MatchOption o ⊥ (λ c. Unit {0})) (sym all.0.told) tt, all_tell fs all.1)

  module _ (w : World) (Refused : Refusal → Type 0) (Taken : Offer → Config → Type 0) (fs : List Looked) (all : AllOf (IsLinked unread) fs) (of : AllOf (IsOf group) fs) where
    -- the refusal for a damaged device
    abbrev pub Harms : Candidate → Type 0
    Harms c = (r : Refusal) × IsDamage c r × Refused r

    abbrev pub NotThere : Type 0
    NotThere = MatchOption (first_that (is_damaged_one unread (λ c. true)) (candidates_of fs)) (Refused (NoGroup (Some group))) (λ c. Harms c)

    abbrev pub Concludes : Type 0
    Concludes = Finds group w unread (candidates_of fs) Refused Taken

    abbrev pub offer_named : ℕ → ℕ → List ℕ → Offer
    offer_named sequence good text = record { sequence = sequence; good = good; text = text }

    -- nothing is taken
    from_nothing : IsEmpty group fs → NotThere → Concludes
    from_nothing empty is =
        let none : highest (offers_of group unread (candidates_of fs)) ≡ None = ap highest (offers_link group unread fs all) ∙ empty.gives (all_tell fs all) in
        subst (λ (o : Option Offer). MatchOption o (NotThere) (λ o. FindsOffer group w unread o (candidates_of fs) Refused (Taken o))) (sym none) is

    -- an offer is taken
    from_chosen : (sequence good : ℕ) (text : List ℕ) → IsChosen group sequence good text fs → FindsOffer group w unread (offer_named sequence good text) (candidates_of fs) Refused (Taken (offer_named sequence good text)) → Concludes
    from_chosen sequence good text chosen is =
        let some : highest (offers_of group unread (candidates_of fs)) ≡ Some (record { sequence = sequence; good = good; text = text }) = ap highest (offers_link group unread fs all) ∙ chosen.gives (all_tell fs all) in
        subst (λ (o : Option Offer). MatchOption o (NotThere) (λ o. FindsOffer group w unread o (candidates_of fs) Refused (Taken o))) (sym some) is

    abbrev TakenBy : ℕ → ℕ → List ℕ → Bool → Type 0
    TakenBy sequence good text high =
        MatchBool high
        (MatchOption (first_that (is_taken_of group unread sequence) (candidates_of fs)) ⊥ (λ c. Refused (Damaged c.label.disk 520)))
        (MatchOption (first_that (is_damaged_one unread (λ c. has good c.label.slot)) (candidates_of fs))
        (FindsAll group w unread (offer_named sequence good text) (candidates_of fs) Refused (Taken (offer_named sequence good text)))
        (λ c. Harms c))

    low_taken : (sequence good : ℕ) (text : List ℕ) → sequence ≤ 2 ^ 63 → TakenBy sequence good text false → TakenBy sequence good text (nat_lt (2 ^ 63) sequence)
    low_taken sequence good text low is = subst (TakenBy sequence good text) (sym (le-ltb (2 ^ 63) sequence low)) is

    high_taken : (sequence good : ℕ) (text : List ℕ) → 2 ^ 63 < sequence → TakenBy sequence good text true → TakenBy sequence good text (nat_lt (2 ^ 63) sequence)
    high_taken sequence good text high is = subst (TakenBy sequence good text) (sym (lt-ltb (2 ^ 63) sequence high)) is

    -- what is taken is complete
    from_whole : (sequence good : ℕ) (text : List ℕ) → IsChosen group sequence good text fs → sequence ≤ 2 ^ 63 → AllOf (IsWhole (Some good)) fs → FindsAll group w unread (offer_named sequence good text) (candidates_of fs) Refused (Taken (offer_named sequence good text)) → Concludes
    from_whole sequence good text chosen low whole is =
        from_chosen sequence good text chosen (low_taken sequence good text low
        (subst (λ (o : Option Candidate). MatchOption o (FindsAll group w unread (offer_named sequence good text) (candidates_of fs) Refused (Taken (offer_named sequence good text))) (λ c. Harms c)) (sym (whole_link unread (Some good) fs all chosen.read whole)) is))

    -- a configuration is given: what becomes of its text is what becomes of the import
    pub given_concludes : (sequence good : ℕ) (text : List ℕ) → IsChosen group sequence good text fs → sequence ≤ 2 ^ 63 → AllOf (IsWhole (Some good)) fs → ((slot : ℕ) → slot < 32 → has good slot ≡ true → is_readable_slot slot fs ≡ true) → FindsText group w (offer_named sequence good text) (candidates_of fs) Refused (Taken (offer_named sequence good text)) → Concludes
    given_concludes sequence good text chosen low whole there is =
        from_whole sequence good text chosen low whole
        (subst (λ (o : Option ℕ). MatchOption o (FindsText group w (offer_named sequence good text) (candidates_of fs) Refused (Taken (offer_named sequence good text))) (λ slot. (disk : Option Word) × IsDiskOf text slot disk × Refused (Missing disk))) (sym (none_missing unread good fs all 32 0 (λ slot lt. there slot (omega (arith, lt))))) is)

    -- a slot has no device that can be read
    pub lacking_concludes : (slot : ℕ) (text : List ℕ) (disk : Option Word) → IsLacking group slot text fs → IsDiskOf text slot disk → Refused (Missing disk) → Concludes
    lacking_concludes slot text disk lacking named is =
        from_whole lacking.sequence lacking.good text lacking.chosen lacking.low lacking.whole
        (subst (λ (o : Option ℕ). MatchOption o (FindsText group w (offer_named lacking.sequence lacking.good text) (candidates_of fs) Refused (Taken (offer_named lacking.sequence lacking.good text))) (λ slot. (disk : Option Word) × IsDiskOf text slot disk × Refused (Missing disk)))
        (sym (let below = lacking.gone.below in one_missing unread lacking.good fs all 32 0 slot (omega arith) (omega (arith, below)) lacking.gone)) (disk, named, is))

    -- there is no configuration
    pub none_concludes : IsNoGroup group fs → Refused (NoGroup (Some group)) → Concludes
    none_concludes missing is =
        from_nothing missing.empty (subst (λ (o : Option Candidate). MatchOption o (Refused (NoGroup (Some group))) (λ c. Harms c)) (sym (whole_link unread None fs all missing.empty.read missing.whole)) is)

    hurt_damage : (meant : Option ℕ) (d : Damage) → IsHurtFirst unread meant d (candidates_of fs) → Refused (Damaged d.disk d.byte) → (X : Type 0) → MatchOption (first_that (is_damaged_one unread (test_of unread meant)) (candidates_of fs)) X (λ c. Harms c)
    hurt_damage meant d hurt is X =
        subst (λ (o : Option Candidate). MatchOption o X (λ c. Harms c)) (sym hurt.is) (Damaged hurt.first.label.disk d.byte, record { byte = d.byte; in_toggle = hurt.at.in_toggle; bad = hurt.at.bad; refusal_is = refl }, subst (λ n. Refused (Damaged n d.byte)) (sym hurt.disk) is)

    -- a device is damaged
    pub damaged_concludes : (d : Damage) → IsDamaged group d fs → Refused (Damaged d.disk d.byte) → Concludes
    damaged_concludes d (inl alone) is =
        from_nothing alone.empty (hurt_damage None d (hurt_link unread None d fs all alone.empty.read alone.first.0 alone.first.1 alone.first.2) is (Refused (NoGroup (Some group))))
    damaged_concludes d (inr (inl high)) is =
        let t : Said = record { sequence = high.sequence; half = high.chosen.half; length = length high.text; good = high.good } in
        let first = taken_first t d.disk fs all of high.chosen.read high.chosen.index high.chosen.top.place high.disk_is high.chosen.top.before in
        from_chosen high.sequence high.good high.text high.chosen (high_taken high.sequence high.good high.text high.high
        (subst (λ (o : Option Candidate). MatchOption o ⊥ (λ c. Refused (Damaged c.label.disk 520))) (sym first.is)
        (subst (λ n. Refused (Damaged n 520)) (sym first.disk_is) (subst (λ b. Refused (Damaged d.disk b)) high.byte_is is))))
    damaged_concludes d (inr (inr named)) is =
        from_chosen named.sequence named.good named.text named.chosen (low_taken named.sequence named.good named.text named.low
        (hurt_damage (Some named.good) d (hurt_link unread (Some named.good) d fs all named.chosen.read named.first.0 named.first.1 named.first.2) is (FindsAll group w unread (offer_named named.sequence named.good named.text) (candidates_of fs) Refused (Taken (offer_named named.sequence named.good named.text)))))
