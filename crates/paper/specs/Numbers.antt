-- Calls and their numbers: each number's test, and their order. The lowest number that applies is the answer.
use Rattle.types.specs.declared.Command.{Command}
use Rattle.std.specs.Prelude.{ℕ, List, Bool, true, not, length, eqb, ltb, leb, None, Option, Some}
use Rattle.types.specs.declared.Register.{Register}
use Rattle.types.specs.declared.Register.TheVariants.{Status, Function, Extended}
use Rattle.types.specs.declared.Operation.{Operation}
use Rattle.types.specs.declared.Operation.TheVariants.{Program, Erase, Write}
use Rattle.types.specs.declared.Phase.{Phase}
use Rattle.types.specs.declared.Stored.{Stored}
use Rattle.types.specs.declared.Part.{Part}
use Rattle.types.specs.declared.Named.{Named}
use Rattle.types.specs.declared.Named.TheVariants.{Bare, Place, Far, InRow}
use Rattle.types.specs.declared.Addressing.{Addressing}
use Rattle.types.specs.declared.Wanted.{Wanted}
use Rattle.types.specs.declared.Wanted.TheVariants.{Any, Running, Halted, Armed}
use Rattle.types.specs.declared.Columns.{Columns}
use Rattle.words.specs.Logic.{◌and◌, ◌or◌, unless, ◌or_else◌}
use Rattle.words.specs.Lists.{sum_to}
use Rattle.paper.specs.Sizes.{is_large, size_ok, array_bytes, array_pages, array_sectors, map_bytes, rows_bytes, transaction_limit, tick_limit, wear_text_bytes}
use Rattle.paper.specs.Address.{row_ok}
use Rattle.paper.specs.Protection.{barred}
use Rattle.paper.specs.Registers.{bit_at, bits_at, TBS}
use Rattle.paper.specs.Phases.{halted, erase_halted, is_busy, is_suspended}
use Rattle.paper.specs.Operations.{target_free, outside_of}
use Rattle.paper.specs.Table.{columns, addressing_on, length_ok, taken_asleep, taken_busy, taken_suspended}
use Rattle.paper.specs.Suspend.{suspendable, resumable}
use Rattle.paper.specs.Commands.{begun}

-- 1: size, n blocks, not 1, 4, 8, 16 or 512, or array length, a bytes, not the record's size
unfoldable pub size_number : ℕ → ℕ → ℕ
size_number n a = unless (size_ok n and eqb a (array_bytes n)) 1

-- 2: rows not 1,024 bytes
unfoldable pub rows_number : ℕ → ℕ
rows_number r = unless (eqb r rows_bytes) 2

-- 3: transaction of 0 or more than 4,096 bytes
unfoldable pub length_number : ℕ → ℕ
length_number n = unless (leb 1 n and leb n transaction_limit) 3

-- 4: output length differs from input length
unfoldable pub output_number : ℕ → ℕ → ℕ
output_number n o = unless (eqb o n) 4

-- 5: record not sound
unfoldable pub sound_number : Bool → ℕ
sound_number sound = unless sound 5

-- 6: more than 4,096 ticks asked, of the large part more than 131,072; n is the size in blocks
unfoldable pub ticks_number : ℕ → ℕ → ℕ
ticks_number n ticks = unless (leb ticks (tick_limit n)) 6

-- 7: the four lists of a script differ in length, or the lengths ls don't add up to the i bytes of input; t, n and d are the lengths of the others
unfoldable pub lists_number : List ℕ → ℕ → ℕ → ℕ → ℕ → ℕ
lists_number ls t n d i =
    unless (eqb t (length ls)
    and eqb n (length ls)
    and eqb d (length ls)
    and eqb (sum_to ls (length ls)) i) 7

-- 35: the number of wear records, w, isn't the number of sectors of n blocks
unfoldable pub wear_number : ℕ → ℕ → ℕ
wear_number n w = unless (eqb w (array_sectors n)) 35

-- 36: a map, of m bytes, isn't one bit per page of n blocks in length
unfoldable pub map_number : ℕ → ℕ → ℕ
map_number n m = unless (eqb m (map_bytes n)) 36

-- 37: a query's page is beyond the part
unfoldable pub page_number : ℕ → ℕ → ℕ
page_number n q = unless (ltb q (array_pages n)) 37

-- 38: the lengths of a wanted image, m bytes, and of the array, a bytes, differ
unfoldable pub image_number : ℕ → ℕ → ℕ
image_number m a = unless (eqb m a) 38

-- 5 at power-up: status bits 1..0, function bits 3..0, but for bit 1, TBS, on the large part, or bits 4..0 of the extended read register not zero
unfoldable pub given_ok : ℕ → Stored → Bool
given_ok n s =
    eqb (bits_at 1 0 s.status) 0
    and eqb (bits_at 3 2 s.function) 0
    and (is_large n or eqb (TBS s.function) 0)
    and eqb (bit_at 0 s.function) 0
    and eqb (bits_at 4 0 s.extended) 0

-- power-up can give only 1 and 5
unfoldable pub power_up_number : ℕ → Stored → ℕ
power_up_number n s = unless (size_ok n) 1 or_else unless (given_ok n s) 5

-- a transaction's 2 to 5, which go by no size: the record is sound or is not, the rows have r bytes; l and o are the lengths of input and output
abbrev pub later_refusal : Bool → ℕ → ℕ → ℕ → ℕ
later_refusal sound r l o =
    rows_number r or_else length_number l or_else output_number l o or_else sound_number sound

-- and its 1 to 5, for a record of n blocks and an array of a bytes
unfoldable pub transaction_refusal : ℕ → Bool → ℕ → ℕ → ℕ → ℕ → ℕ
transaction_refusal n sound a r l o = size_number n a or_else later_refusal sound r l o

-- ticks can give only 1, 2, 5 and 6
unfoldable pub tick_number : ℕ → Bool → ℕ → ℕ → ℕ → ℕ
tick_number n sound a r ticks =
    size_number n a or_else rows_number r or_else sound_number sound or_else ticks_number n ticks

-- a script's 2, 7, 4 and 5, in that order, which go by no size: o is the length of its output
unfoldable pub later_script_refusal : Bool → ℕ → List ℕ → ℕ → ℕ → ℕ → ℕ → ℕ → ℕ
later_script_refusal sound r ls t n d i o =
    rows_number r or_else lists_number ls t n d i or_else output_number i o or_else sound_number sound

-- and its 1, 2, 7, 4 and 5, which are tested before the first step
unfoldable pub script_refusal : ℕ → Bool → ℕ → ℕ → List ℕ → ℕ → ℕ → ℕ → ℕ → ℕ → ℕ
script_refusal b sound a r ls t n d i o = size_number b a or_else later_script_refusal sound r ls t n d i o

-- a check's 38, 2, 7, 4 and 5, in that order, which go by no size: the image has m bytes
unfoldable pub later_check_refusal : Bool → ℕ → ℕ → ℕ → List ℕ → ℕ → ℕ → ℕ → ℕ → ℕ → ℕ
later_check_refusal sound m a r ls t n d i o = image_number m a or_else later_script_refusal sound r ls t n d i o

-- and its 1, 38, 2, 7, 4 and 5, which are tested before the first step
unfoldable pub check_refusal : ℕ → Bool → ℕ → ℕ → ℕ → List ℕ → ℕ → ℕ → ℕ → ℕ → ℕ → ℕ
check_refusal b sound m a r ls t n d i o = size_number b a or_else later_check_refusal sound m a r ls t n d i o

-- a rebuild of a map can give only 1 and 36
unfoldable pub rebuild_number : ℕ → ℕ → ℕ → ℕ
rebuild_number n a m = size_number n a or_else map_number n m

-- a query of a map only 1, for a size that is none, 36 and 37
unfoldable pub query_number : ℕ → ℕ → ℕ → ℕ
query_number n m q = unless (size_ok n) 1 or_else map_number n m or_else page_number n q

-- ticks that are lent a map only 1, 36, 2, 5 and 6
unfoldable pub map_tick_number : ℕ → Bool → ℕ → ℕ → ℕ → ℕ → ℕ
map_tick_number n sound a r m ticks =
    size_number n a or_else map_number n m or_else rows_number r or_else sound_number sound or_else ticks_number n ticks

-- 1, 36, 2, 7, 4 and 5 of a script that is lent a map, which are tested before the first step
unfoldable pub map_script_refusal : ℕ → Bool → ℕ → ℕ → ℕ → List ℕ → ℕ → ℕ → ℕ → ℕ → ℕ → ℕ
map_script_refusal b sound m a r ls t n d i o =
    size_number b a or_else map_number b m or_else later_script_refusal sound r ls t n d i o

-- ticks that are lent wear records only 1, 35, 2, 5 and 6
unfoldable pub wear_tick_number : ℕ → Bool → ℕ → ℕ → ℕ → ℕ → ℕ
wear_tick_number n sound a r w ticks =
    size_number n a or_else wear_number n w or_else rows_number r or_else sound_number sound or_else ticks_number n ticks

-- 1, 35, 2, 7, 4 and 5 of a script that is lent wear records, which are tested before the first step
unfoldable pub wear_script_refusal : ℕ → Bool → ℕ → ℕ → ℕ → List ℕ → ℕ → ℕ → ℕ → ℕ → ℕ → ℕ
wear_script_refusal b sound w a r ls t n d i o =
    size_number b a or_else wear_number b w or_else later_script_refusal sound r ls t n d i o

-- the text of wear records only 1, for a size that is none, 35, and 4, where its buffer, of o bytes, hasn't the length that is asked
unfoldable pub wear_text_number : ℕ → ℕ → ℕ → ℕ
wear_text_number n w o = unless (size_ok n) 1 or_else wear_number n w or_else output_number (wear_text_bytes n) o

-- 25: nothing running that can be suspended, nothing to resume, or 99h not armed
abbrev pub state_ok : Wanted → Part → Phase → Bool
state_ok Any p f = true
state_ok Running p f = suspendable f
state_ok Halted p f = resumable f
state_ok Armed p f = p.armed

-- 27: row address not valid, of an address that is sent as g says
abbrev pub address_ok : Named → Addressing → List ℕ → Bool
address_ok Bare g i = true
address_ok Place g i = true
address_ok Far g i = true
address_ok InRow g i = row_ok g i

-- the pin bars status writes alone
abbrev pub pin_ok : Register → Stored → Bool → Bool
pin_ok Status s wp = not (barred s.status wp)
pin_ok Function s wp = true
pin_ok Extended s wp = true

abbrev pub write_ok : Operation → Stored → Bool → Bool
write_ok (Program m k b c d) s wp = true
write_ok (Erase u b d) s wp = true
write_ok (Write r v) s wp = pin_ok r s wp

-- 28: protected, locked, a program into the suspended unit, or status write barred by the pin, of what a command begins
abbrev pub free_ok : Option Operation → Part → Phase → Bool → Bool
free_ok None p f wp = true
free_ok (Some o) p f wp =
    target_free o p.blocks p.stored
    and outside_of (halted f) p.blocks o
    and write_ok o p.stored wp

-- 21 to 28, of a command with these columns, whose address is sent as g says and that begins w, on a part in a phase, with the input i, and with WP# high where wp is true: 0 where it is executed
unfoldable pub command_number : Columns → Addressing → Option Operation → Part → Phase → List ℕ → Bool → ℕ
command_number k g w p f i wp =
    unless (taken_asleep k.taken or not p.asleep) 21
    or_else unless (taken_busy k.taken or not (is_busy f)) 22
    or_else unless (taken_suspended k.taken (erase_halted f) or not (is_suspended f)) 23
    or_else unless (length_ok k.length (length i)) 24
    or_else unless (state_ok k.wanted p f) 25
    or_else unless (not k.wel or p.wel) 26
    or_else unless (address_ok k.named g i) 27
    or_else unless (free_ok w p f wp) 28

-- 20 to 28: 20 where the first byte is in no row of the command table, even asleep or busy
abbrev pub ignored_number : Option Command → Part → Phase → List ℕ → Bool → ℕ
ignored_number (Some k) p f i wp =
    command_number (columns k) (addressing_on (columns k) p) (begun (columns k) p i) p f i wp
ignored_number None p f i wp = 20
