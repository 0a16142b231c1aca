-- What a record makes of a setting is what the ledger makes of it: the settings of a sound record become the ledger's entry, unless a lock
-- keeps the register, which the record answers with 17. And the ledger as a value of the program is the ledger of what it was told.
-- Assumes nothing.
use Rattle.std.specs.Prelude.{◌≡◌, refl, Bool, true, false, cond, not, ◌&&◌, List, [], ◌∷◌, ◌++◌, ℕ, zero, suc, ◌+◌, ◌<◌, leb, eqb, Ok, Err}
use Rattle.std.proofs.Common.{sym, ap, ◌∙◌, subst, lt-ltb}
use Rattle.map.specs.declared.refusals.Refusal.{Refusal}
use Rattle.map.specs.declared.refusals.Refusal.TheVariants.{NotWritable, ReservedBit, NoDot, Level, GroupOrState, SceneLength, Unsound, Locked}
use Rattle.map.specs.Refusals.{Answer, refusal_number, answer_number, numbers_of, accepted}
use Rattle.map.specs.Map.{is_dot, writable_of}
use Rattle.map.specs.Images.{ok_byte, reset_image}
use Rattle.map.specs.ImageLaws.{Image, ok_image}
use Rattle.map.specs.Lists.{all_from}
use Rattle.dots.specs.Dots.{top_level}
use Rattle.dots.specs.DotImages.{reset_image_lem}
use Rattle.calls.specs.declared.Setting.{Setting}
use Rattle.calls.specs.declared.Setting.TheVariants.{Register, Lamp, Group, Switch, Scene}
use Rattle.calls.specs.declared.Request.{Request}
use Rattle.calls.specs.declared.Request.TheVariants.{Set, Reset, PowerLost, Update, Lock}
use Rattle.host.specs.declared.Header.{Header}
use Rattle.host.specs.declared.Record.{Record}
use Rattle.host.specs.Record.{header_of, free, is_trim, is_locked, lock_keeps, sound_of, when_sound, when_dot, register_answer, lamp_answer, field_answer, scene_count, scene_sized, scene_has_dot, scene_fits, scene_answer, arguments_answer, setting_answer, setting_numbers, put_setting, changed_to, setting_of}
use Rattle.host.specs.LockLaws.{free_unlocked}
use Rattle.host.proofs.SoundLaws.{chosen, setting_image}
use Rattle.history.specs.declared.CallAnswer as answers
use Rattle.history.specs.declared.Ledger.{Ledger}
use Rattle.history.specs.Step.{answers_locked}
use Rattle.history.specs.Ledger.{register_meets, lamp_meets, field_meets, entry_meets, scene_meets, setting_meets, entry, Told, entered, entries, ledger, opened_ledger, entered_of}

-- ---- tests

-- an answer behind a test is accepted where the test passes and the answer is accepted
behind : (b : Bool) (answer : Answer) (x : Refusal) → accepted (cond b answer (Err x)) ≡ (b && accepted answer)
behind true answer x = refl
behind false answer x = refl

-- two tests of each place of a range are one
all_both : (f g : ℕ → Bool) (a n : ℕ) → (all_from f a n && all_from g a n) ≡ all_from (λ i. f i && g i) a n
unfolding all_from
all_both f g a zero = refl
all_both f g a (suc n) =
    go (f (a + n)) (g (a + n)) (all_from f a n) (all_from g a n) ∙ ap (λ (b : Bool). (f (a + n) && g (a + n)) && b) (all_both f g a n)
  where
    go : (x y u v : Bool) → ((x && u) && (y && v)) ≡ ((x && y) && (u && v))
    go true true u v = refl
    go true false true v = refl
    go true false false v = refl
    go false y u v = refl

choice : (a b c : Bool) (new old : List ℕ) → cond (a && (b && not c)) new old ≡ cond a (cond c old (cond b new old)) old
choice true true true new old = refl
choice true true false new old = refl
choice true false true new old = refl
choice true false false new old = refl
choice false b c new old = refl

-- ---- a setting

-- it is a Register of a locked address
unfoldable pub locked_out : Header → Setting → Bool
locked_out h (Register a v) = writable_of h.member a && lock_keeps h a
locked_out h (Lamp l k v) = false
locked_out h (Group l k g) = false
locked_out h (Switch l k x) = false
locked_out h Scene = false

-- an answer is 17
abbrev is_seventeen : Answer → Bool
is_seventeen answer = eqb (answer_number answer) (refusal_number Locked)

-- What its arguments are answered: they are accepted where it meets the ledger's condition and no lock keeps the register, and answered 17
-- where one does.
record Answers (answer : Answer) (meets out : Bool) : Type 0 where
  taken : accepted answer ≡ (meets && not out)
  told : is_seventeen answer ≡ out

register_answers : (w k o : Bool) → Answers (cond w (cond k (Err Locked) (cond o (Ok tt) (Err ReservedBit))) (Err NotWritable)) (w && o) (w && k)
register_answers true true true = record { taken = refl; told = refl }
register_answers true true false = record { taken = refl; told = refl }
register_answers true false true = record { taken = refl; told = refl }
register_answers true false false = record { taken = refl; told = refl }
register_answers false k o = record { taken = refl; told = refl }

-- the other settings have two tests, a Scene one more before them
two_tests : (a b : Bool) (x y : Refusal) → is_seventeen (Err x) ≡ false → is_seventeen (Err y) ≡ false →
    Answers (cond a (cond b (Ok tt) (Err y)) (Err x)) (a && b) false
two_tests true true x y ex ey = record { taken = refl; told = refl }
two_tests true false x y ex ey = record { taken = refl; told = ey }
two_tests false b x y ex ey = record { taken = refl; told = ex }

test_before : (a meets : Bool) (answer : Answer) (x : Refusal) → is_seventeen (Err x) ≡ false → Answers answer meets false →
    Answers (cond a answer (Err x)) (a && meets) false
test_before true meets answer x e s = s
test_before false meets answer x e s = record { taken = refl; told = e }

setting_answers : (h : Header) (s : List ℕ) (q : Setting) (lent : List ℕ) →
    Answers (arguments_answer h s q lent) (setting_meets h.member s q lent) (locked_out h q)
unfolding locked_out arguments_answer setting_meets register_answer register_meets when_dot lamp_answer lamp_meets field_answer field_meets scene_answer scene_meets entry_meets
setting_answers h s (Register a v) lent = register_answers (writable_of h.member a) (lock_keeps h a) (ok_byte h.member a v)
setting_answers h s (Lamp l k v) lent = two_tests (is_dot h.member l k) (leb v (top_level s)) NoDot Level refl refl
setting_answers h s (Group l k g) lent = two_tests (is_dot h.member l k) (leb g 3) NoDot GroupOrState refl refl
setting_answers h s (Switch l k x) lent = two_tests (is_dot h.member l k) (leb x 1) NoDot GroupOrState refl refl
setting_answers h s Scene lent =
    let dots : ℕ → Bool = scene_has_dot h.member lent in
    let fits : ℕ → Bool = scene_fits (top_level s) lent in
    subst (λ (b : Bool). Answers (arguments_answer h s Scene lent) (scene_sized lent && b) false) (all_both dots fits 0 (scene_count lent))
    (test_before (scene_sized lent) _ _ SceneLength refl
    (two_tests (all_from dots 0 (scene_count lent)) (all_from fits 0 (scene_count lent)) NoDot Level refl refl))

-- nothing is locked out of a record that is not locked,
pub free_out : (h : Header) → is_locked h ≡ false → (q : Setting) → locked_out h q ≡ false
unfolding locked_out lock_keeps
free_out h e (Register a v) = rw e (go (writable_of h.member a) (is_trim a))
  where
    go : (w t : Bool) → (w && (t && false)) ≡ false
    go true true = refl
    go true false = refl
    go false t = refl
free_out h e (Lamp l k v) = refl
free_out h e (Group l k g) = refl
free_out h e (Switch l k x) = refl
free_out h e Scene = refl

-- so that it accepts a setting that meets the condition
pub setting_accepted : (h : Header) → is_locked h ≡ false → (s : List ℕ) (q : Setting) (lent : List ℕ) →
    accepted (arguments_answer h s q lent) ≡ setting_meets h.member s q lent
setting_accepted h e s q lent =
    (setting_answers h s q lent).taken ∙ ap (λ (b : Bool). setting_meets h.member s q lent && not b) (free_out h e q) ∙ and-true (setting_meets h.member s q lent)
  where
    and-true : (b : Bool) → (b && true) ≡ b
    and-true true = refl
    and-true false = refl

-- and the settings of a record are the ledger's entry, or the old ones where it was answered 17
pub setting_enters : (r : Record) (q : Setting) (lent : List ℕ) →
    (setting_of r q lent).host.settings
    ≡ cond (sound_of r) (cond (locked_out r.header q) r.settings (entry r.header.member r.settings (Set q) lent)) r.settings
unfolding setting_of changed_to setting_answer when_sound
setting_enters r q lent =
    let new : List ℕ = put_setting r.settings q lent in
    ap (λ (b : Bool). cond b new r.settings)
    (behind (sound_of r) _ Unsound ∙ ap (λ (b : Bool). sound_of r && b) (setting_answers r.header r.settings q lent).taken)
    ∙ choice (sound_of r) (setting_meets r.header.member r.settings q lent) (locked_out r.header q) new r.settings

-- as the ledger is told of a sound record
pub setting_told : (r : Record) → sound_of r ≡ true → (q : Setting) (lent : List ℕ) →
    answers_locked (answers.TheVariants.Setting (setting_of r q lent).numbers) ≡ locked_out r.header q
unfolding answers_locked setting_of changed_to setting_numbers setting_answer when_sound numbers_of
setting_told r e q lent = rw e (setting_answers r.header r.settings q lent).told

-- "for an unlocked record the old reading holds": of a setting of a sound record that is not locked the ledger is told no 17
pub told_free : (r : Record) → sound_of r ≡ true → is_locked r.header ≡ false → (q : Setting) (lent : List ℕ) →
    answers_locked (answers.TheVariants.Setting (setting_of r q lent).numbers) ≡ false
told_free r s e q lent = setting_told r s q lent ∙ free_out r.header e q

-- ---- the ledger's bytes are always an image of its member

pub entry_image : (m : ℕ) (s : List ℕ) → Image m s → (request : Request) (lent : List ℕ) → Image m (entry m s request lent)
entry_image m s i (Set q) lent =
    let h : Header = header_of m 0 0 free in
    chosen m (setting_meets m s q lent) (put_setting s q lent) s (λ e. setting_image h s i q lent (setting_accepted h (free_unlocked h refl) s q lent ∙ e)) i
entry_image m s i Reset lent = i
entry_image m s i PowerLost lent = i
entry_image m s i Update lent = i
entry_image m s i Lock lent = i

entered_image : (m : ℕ) (s : List ℕ) → Image m s → (x : Told) → Image m (entered m s x)
entered_image m s i x = chosen m x.locked s (entry m s x.request x.lent) (λ e. i) (entry_image m s i x.request x.lent)

-- a call that is no setting enters nothing, whatever was answered
pub enters_nothing : (m : ℕ) (s : List ℕ) (x : Told) → entry m s x.request x.lent ≡ s → entered m s x ≡ s
enters_nothing m s x e = ap (cond x.locked s) e ∙ either x.locked
  where
    either : (b : Bool) → cond b s s ≡ s
    either true = refl
    either false = refl

entries_image : (m : ℕ) (xs : List Told) (s : List ℕ) → Image m s → Image m (entries m s xs)
entries_image m [] s i = i
entries_image m (x ∷ xs) s i = entries_image m xs (entered m s x) (entered_image m s i x)

pub entries_append : (m : ℕ) (xs ys : List Told) (s : List ℕ) → entries m s (xs ++ ys) ≡ entries m (entries m s xs) ys
entries_append m [] ys s = refl
entries_append m (x ∷ xs) ys s = entries_append m xs ys (entered m s x)

-- ---- the ledger as a value of the program

-- the ledger of a member that was told these calls
abbrev pub ledger_of : ℕ → List Told → Ledger
ledger_of m xs = record { member = m; bytes = ledger m xs }

pub ledger_opened : (m : ℕ) → m < 5 → opened_ledger m ≡ ledger_of m []
unfolding opened_ledger
ledger_opened m h = rw (lt-ltb m 5 h) refl

-- entering one more call gives the ledger that was told of it too: its bytes are always such as `entered_of` takes
pub ledger_entered : (m : ℕ) → m < 5 → (xs : List Told) (x : Told) → entered_of (ledger_of m xs) x ≡ ledger_of m (xs ++ (x ∷ []))
unfolding entered_of
ledger_entered m h xs x =
    ap (λ (s : List ℕ). record { member = m; bytes = s })
    (ap (λ (b : Bool). cond b (entered m (ledger m xs) x) (ledger m xs)) (ok_image m (ledger m xs) (entries_image m xs (reset_image m) (reset_image_lem m h)))
    ∙ sym (entries_append m xs (x ∷ []) (reset_image m)))
