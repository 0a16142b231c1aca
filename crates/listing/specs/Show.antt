-- A list as text: document 01, "Bench examples", program `showlist`, for either bus; and the same text on one line. Text is a list of ASCII
-- codes; l is a list, x the bytes of a transaction; bus 0 is I2C, any other SPI.
-- Assumes nothing.
use Rattle.std.specs.Prelude.{cond, List, [], ◌∷◌, ◌++◌, ℕ, leb, length, get_or, drop}
use Rattle.map.specs.declared.refusals.Refusal.TheVariants.{ListSizes}
use Rattle.map.specs.Refusals.{refusal_number}
use Rattle.burst.specs.Burst.{n_of, t_of, transactions, sizes_good, head_address}
use Rattle.text.specs.Text.{address_text, decimal_text, spaced_bytes_text}

-- ---- Transactions

-- "the head's address in three digits and each data byte in two after a space"
unfoldable pub transaction_text : ℕ → List ℕ → List ℕ
transaction_text bus x = address_text (head_address bus (get_or x 0 0) (get_or x 1 0)) ++ spaced_bytes_text (drop 2 x)

-- "for each transaction, reads and other chips' too": one after the other, each behind a separator
unfoldable pub transactions_text : List ℕ → ℕ → List (List ℕ) → List ℕ
transactions_text separator bus [] = []
transactions_text separator bus (x ∷ xs) = (separator ++ transaction_text bus x) ++ transactions_text separator bus xs

-- "n and t in decimal;"
unfoldable pub sizes_text : ℕ → ℕ → List ℕ
sizes_text n t = decimal_text n ++ (0x20 ∷ decimal_text t)

-- `11`, the number of a list whose sizes do not add up
unfoldable pub refusal_text : List ℕ
refusal_text = decimal_text (refusal_number ListSizes)

-- ---- The whole

-- n and t, then each transaction behind a separator; "one refused by sizes" is `11`
unfoldable pub separated_text : List ℕ → ℕ → List ℕ → List ℕ
separated_text separator bus l = cond (sizes_good l) (sizes_text (n_of l) (t_of l) ++ transactions_text separator bus (transactions l)) refusal_text

-- on one line, ` / ` before each transaction
unfoldable pub list_text : ℕ → List ℕ → List ℕ
list_text bus l = separated_text (0x20 ∷ 0x2F ∷ 0x20 ∷ []) bus l

-- "a line for each transaction", so a line's end before each, and behind the last; "or over 65,536 bytes, prints `11`." "Its input is an
-- I2C list": document 01's form is `shown 0`
unfoldable pub shown : ℕ → List ℕ → List ℕ
shown bus l = cond (leb (length l) 65536) (separated_text (0x0A ∷ []) bus l) refusal_text ++ (0x0A ∷ [])

-- ---- Line by line

-- a transaction's line
unfoldable pub line_text : ℕ → List ℕ → List ℕ
line_text bus x = transaction_text bus x ++ (0x0A ∷ [])

-- "a line for each transaction": the lines of all, one after the other (ShowLaws joins them with `shown`)
unfoldable pub lines_text : ℕ → List (List ℕ) → List ℕ
lines_text bus [] = []
lines_text bus (x ∷ xs) = line_text bus x ++ lines_text bus xs
