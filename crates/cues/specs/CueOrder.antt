-- The order of a cue's calls: document 02, Q-6, "Our cue editor reorders calls." Its claims stand here, and CueLaws.antt proves them. Each is
-- about every record, so about "all members and both buses together". r is a record, l and k are lines, s and t sinks, v and w values.
-- Assumes nothing.
use Rattle.std.specs.Prelude.{◌≡◌, Bool, true, not, List, [], ◌∷◌, ℕ, ◌<◌, eqb}
use Rattle.map.specs.Refusals.{Answer, accepted}
use Rattle.map.specs.Map.{dot_number}
use Rattle.dots.specs.Dots.{wide_of}
use Rattle.calls.specs.declared.Setting.{Setting}
use Rattle.calls.specs.declared.Setting.TheVariants.{Register, Lamp, Group, Switch, Scene}
use Rattle.host.specs.declared.Record.{Record}
use Rattle.host.specs.Record.{scene_count, scene_dot, setting_answer, setting_of}

-- ---- The calls of a cue

-- "Lamp, Group or Switch calls": the three sorts of calls on one dot
pub data Sort : Type 0 where
  lamp group switch : Sort

-- a call of a cue, with its arguments: one on a dot, with its sort, line, sink and value; a Register; a Scene, with its bytes
pub data CueCall : Type 0 where
  dot : Sort → ℕ → ℕ → ℕ → CueCall
  register : ℕ → ℕ → CueCall
  scene : List ℕ → CueCall

-- the setting that it is
abbrev pub setting_in : CueCall → Setting
setting_in (dot lamp l s v) = Lamp l s v
setting_in (dot group l s v) = Group l s v
setting_in (dot switch l s v) = Switch l s v
setting_in (register a v) = Register a v
setting_in (scene bytes) = Scene

-- and the bytes that are lent with it
abbrev pub lent_with : CueCall → List ℕ
lent_with (dot c l s v) = []
lent_with (register a v) = []
lent_with (scene bytes) = bytes

-- what a record answers to it
abbrev pub answer_to : Record → CueCall → Answer
answer_to r q = setting_answer r (setting_in q) (lent_with q)

-- "accepted": the record takes the call
abbrev pub Takes : Record → CueCall → Type 0
Takes r q = accepted (answer_to r q) ≡ true

-- the record after a call, accepted or refused
abbrev pub after : Record → CueCall → Record
after r q = (setting_of r (setting_in q) (lent_with q)).host

-- and after several
abbrev pub after_all : Record → List CueCall → Record
after_all r [] = r
after_all r (q ∷ qs) = after_all (after r q) qs

-- ---- The four claims

-- p and then q were accepted. In the other order they are accepted too, and "give the same record".
pub record EitherOrder (r : Record) (p q : CueCall) : Type 0 where
  pub first : Takes r q
  pub second : Takes (after r q) p
  pub same : after (after r p) q ≡ after (after r q) p

-- "two accepted Lamp, Group or Switch calls on different dots, or of different sorts, give the same record in either order": that is, unless
-- sort, line and sink are all the same
abbrev pub DotsInEitherOrder : Type 0
DotsInEitherOrder =
    (r : Record) (c d : Sort) (l s v k t w : ℕ) → (c ≡ d → l ≡ k → s ≡ t → ⊥) →
    Takes r (dot c l s v) → Takes (after r (dot c l s v)) (dot d k t w) → EitherOrder r (dot c l s v) (dot d k t w)

-- p, the calls between and then q were made. Without p the record at the end is the same, and q is accepted too.
pub record LaterStands (r : Record) (p : CueCall) (between : List CueCall) (q : CueCall) : Type 0 where
  pub alone : Takes (after_all r between) q
  pub same : after (after_all (after r p) between) q ≡ after (after_all r between) q

-- "of two accepted Lamp calls on one dot in one data mode the later one stands", whatever calls of a cue stand between them. Data modes 0 and 1
-- count as one here, and 2 and 3, since they have their levels at the same places.
abbrev pub LaterLampStands : Type 0
LaterLampStands =
    (r : Record) (l s v w : ℕ) (between : List CueCall) →
    Takes r (dot lamp l s v) → Takes (after_all (after r (dot lamp l s v)) between) (dot lamp l s w) →
    wide_of r.settings ≡ wide_of (after_all (after r (dot lamp l s v)) between).settings → LaterStands r (dot lamp l s v) between (dot lamp l s w)

-- "a Scene given twice is as given once"; the second one is accepted too.
abbrev pub SceneTwice : Type 0
SceneTwice =
    (r : Record) (bytes : List ℕ) → Takes r (scene bytes) →
    Takes (after r (scene bytes)) (scene bytes) × (after (after r (scene bytes)) (scene bytes) ≡ after r (scene bytes))

-- "two scenes with no dot in common"
abbrev pub NoDotInCommon : List ℕ → List ℕ → Type 0
NoDotInCommon one other = (i j : ℕ) → i < scene_count one → j < scene_count other → scene_dot one i ≡ scene_dot other j → ⊥

-- "change places freely."
abbrev pub ScenesInEitherOrder : Type 0
ScenesInEitherOrder =
    (r : Record) (one other : List ℕ) → NoDotInCommon one other →
    Takes r (scene one) → Takes (after r (scene one)) (scene other) → EitherOrder r (scene one) (scene other)

-- ---- Two more, which go on from them

-- a Scene and a call on a dot, unless that is a Lamp on a dot of the scene
abbrev pub SceneAndDotInEitherOrder : Type 0
SceneAndDotInEitherOrder =
    (r : Record) (bytes : List ℕ) (c : Sort) (l s v : ℕ) → (c ≡ lamp → (i : ℕ) → i < scene_count bytes → scene_dot bytes i ≡ dot_number l s → ⊥) →
    Takes r (scene bytes) → Takes (after r (scene bytes)) (dot c l s v) → EitherOrder r (scene bytes) (dot c l s v)

-- calls that leave 001h, where the data mode stands
unfoldable pub keeps_mode : CueCall → Bool
keeps_mode (dot c l s v) = true
keeps_mode (register a v) = not (eqb a 0x001)
keeps_mode (scene bytes) = true

-- such a call, accepted or refused, changes no answer of another: whatever the order, the same calls are accepted
abbrev pub AnswersStay : Type 0
AnswersStay = (r : Record) (p q : CueCall) → keeps_mode p ≡ true → answer_to (after r p) q ≡ answer_to r q
