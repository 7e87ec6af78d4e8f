-- How the handshake is spelled.
use Rattle.std.specs.Prelude.{◌≡◌, ◌<◌, ◌^◌, ◌++◌, ◌*◌, ℕ, List, length}
use Rattle.std.specs.Int.{w16, w32, w64, to_be_bytes}
use Rattle.nbd_words.specs.declared.options.OptionHead.{OptionHead}
use Rattle.nbd_words.specs.declared.options.OptionKind.{OptionKind}
use Rattle.nbd_words.specs.declared.options.OptionKind.TheVariants.{ExportName, Abort, List as ListNames, Info as InfoOf, Go, Other}
use Rattle.nbd_words.specs.declared.options.ReplyKind.{ReplyKind}
use Rattle.nbd_words.specs.declared.options.ReplyKind.TheVariants.{Acknowledged, Server, Info, Unsupported, Invalid, Unknown, TooBig}

abbrev pub option_number : OptionKind → ℕ
option_number ExportName = 1
option_number Abort = 2
option_number ListNames = 3
option_number InfoOf = 6
option_number Go = 7
option_number (Other number) = number

-- an error has the highest bit
abbrev pub reply_number : ReplyKind → ℕ
reply_number Acknowledged = 1
reply_number Server = 2
reply_number Info = 3
reply_number Unsupported = 0x8000_0001
reply_number Invalid = 0x8000_0003
reply_number Unknown = 0x8000_0006
reply_number TooBig = 0x8000_0009

-- the head of an option: its number, and how many bytes lie behind
pub record Head : Type 0 where
  pub option : ℕ
  pub length : ℕ

pub record IsHead (head : Head) : Type 0 where
  pub option : head.option < 2 ^ 32
  pub length : head.length < 2 ^ 32

abbrev pub head_of : OptionHead → Head
head_of head = record { option = option_number head.kind; length = head.length }

abbrev pub head_bytes : Head → List ℕ
head_bytes head = to_be_bytes w64 5280542401877725268 ++ (to_be_bytes w32 head.option ++ to_be_bytes w32 head.length)

-- the content of an option that names an export by so many bytes: their number, the bytes, and numbers of what the client wants to know
pub record IsNamed (n : ℕ) (content : List ℕ) : Type 0 where
  pub fits : n < 2 ^ 32
  pub name : List ℕ
  pub long : length name ≡ n
  pub count : ℕ
  pub few : count < 2 ^ 16
  pub wanted : List ℕ
  pub each : length wanted ≡ 2 * count
  pub spelled : content ≡ to_be_bytes w32 n ++ (name ++ (to_be_bytes w16 count ++ wanted))

abbrev pub option_reply_bytes : ℕ → ℕ → List ℕ → List ℕ
option_reply_bytes option kind content =
    to_be_bytes w64 1100100111001001 ++ (to_be_bytes w32 option ++ (to_be_bytes w32 kind ++ (to_be_bytes w32 (length content) ++ content)))
