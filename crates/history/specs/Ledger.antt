-- The ledger: document 01, "The ledger and whole lists", and what it is told of a lock: document 02, Q-5. m is a member, s the ledger's bytes, `lent` the bytes of a scene.
-- Assumes nothing.
use Rattle.std.specs.Prelude.{Bool, cond, ◌&&◌, List, [], ◌∷◌, ℕ, ◌%◌, ltb, leb, eqb, get_or}
use Rattle.map.specs.Map.{is_dot, writable_of}
use Rattle.map.specs.Images.{ok_byte, image_ok, reset_image}
use Rattle.map.specs.Lists.{all_from}
use Rattle.dots.specs.Dots.{top_level}
use Rattle.calls.specs.declared.Setting.{Setting}
use Rattle.calls.specs.declared.Setting.TheVariants.{Register, Lamp, Group, Switch, Scene}
use Rattle.calls.specs.declared.Request.{Request}
use Rattle.calls.specs.declared.Request.TheVariants.{Set, Reset, PowerLost, Update, Lock}
use Rattle.host.specs.Record.{scene_count, scene_sized, scene_has_dot, scene_fits, put_setting}
use Rattle.history.specs.declared.Ledger.{Ledger}

-- ---- The condition of a setting

-- "Register: if the address is writable and the value has reset values in its reserved bits"
unfoldable pub register_meets : ℕ → ℕ → ℕ → Bool
register_meets m a v = writable_of m a && ok_byte m a v

-- "Lamp: if the dot exists and the level is at most 255 in data mode 0 or 1, 65,535 otherwise .. The mode is read from the ledger's
-- own 001h."
unfoldable pub lamp_meets : ℕ → List ℕ → ℕ → ℕ → ℕ → Bool
lamp_meets m s l k v = is_dot m l k && leb v (top_level s)

-- "Group, Switch: if the dot exists and the group is at most 3, the state at most 1"
unfoldable pub field_meets : ℕ → ℕ → ℕ → ℕ → ℕ → Bool
field_meets m l k v top = is_dot m l k && leb v top

-- "Scene: if its length is at least 2 and is 2 + 3 × n, and each entry meets Lamp's condition"
unfoldable pub entry_meets : ℕ → List ℕ → List ℕ → ℕ → Bool
entry_meets m s bytes i = scene_has_dot m bytes i && scene_fits (top_level s) bytes i

unfoldable pub scene_meets : ℕ → List ℕ → List ℕ → Bool
scene_meets m s bytes = scene_sized bytes && all_from (entry_meets m s bytes) 0 (scene_count bytes)

-- each setting's own
unfoldable pub setting_meets : ℕ → List ℕ → Setting → List ℕ → Bool
setting_meets m s (Register a v) lent = register_meets m a v
setting_meets m s (Lamp l k v) lent = lamp_meets m s l k v
setting_meets m s (Group l k g) lent = field_meets m l k g 3
setting_meets m s (Switch l k x) lent = field_meets m l k x 1
setting_meets m s Scene lent = scene_meets m s lent

-- ---- The ledger's bytes

-- after a call: "that byte takes the value", "the dot's PWM byte or bytes take it", "the dot's bits take it", "the entries act as
-- Lamps in order". "A setting that fails its condition is refused and changes nothing, nor do Update, Reset and Power lost.", nor Lock
abbrev pub entry : ℕ → List ℕ → Request → List ℕ → List ℕ
entry m s (Set q) lent = cond (setting_meets m s q lent) (put_setting s q lent) s
entry m s Reset lent = s
entry m s PowerLost lent = s
entry m s Update lent = s
entry m s Lock lent = s

-- What the ledger is told of a call: it "is fed the calls in order, with all their arguments but the record, and never an answer." But Q-5:
-- "With locking in demand 3's list the ledger is told of each 17, of no other answer": whether the call was answered so.
pub record Told : Type 0 where
  pub request : Request
  pub lent : List ℕ
  pub locked : Bool

abbrev pub told_of : Request → List ℕ → Bool → Told
told_of request lent locked = record { request = request; lent = lent; locked = locked }

-- after a call that it was told of: "and such a Register changes nothing there"
abbrev pub entered : ℕ → List ℕ → Told → List ℕ
entered m s x = cond x.locked s (entry m s x.request x.lent)

-- after all of them
abbrev pub entries : ℕ → List ℕ → List Told → List ℕ
entries m s [] = s
entries m s (x ∷ xs) = entries m (entered m s x) xs

-- it "has the member that the accepted Open was given, and 908 bytes, which begin at that member's reset values."
abbrev pub ledger : ℕ → List Told → List ℕ
ledger m xs = entries m (reset_image m) xs

-- "Chip enable is wanted on when bit 0 of the ledger's 000h is 1."
abbrev pub wants_on : List ℕ → Bool
wants_on s = eqb (get_or s 0x000 0 % 2) 1

-- ---- The ledger as a value of the program

-- "908 bytes, which begin at that member's reset values"; a member that Open refuses gives the ledger of member 0
unfoldable pub opened_ledger : ℕ → Ledger
opened_ledger m = record { member = cond (ltb m 5) m 0; bytes = reset_image (cond (ltb m 5) m 0) }

-- its bytes after a call; bytes that no ledger holds are left as they are
abbrev pub entry_of : Ledger → Request → List ℕ → Ledger
entry_of g request lent = record {
  member = g.member;
  bytes = cond (image_ok g.member g.bytes) (entry g.member g.bytes request lent) g.bytes;
}

-- one more call
unfoldable pub entered_of : Ledger → Told → Ledger
entered_of g x = record {
  member = g.member;
  bytes = cond (image_ok g.member g.bytes) (entered g.member g.bytes x) g.bytes;
}
