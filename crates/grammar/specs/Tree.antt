-- Requests as trees. What two or more productions share has a type of its own: names, references, headings.
use Rattle.std.specs.Prelude.{ℕ, List}
use Rattle.wire.specs.declared.codes.Version.{Version}
use Rattle.wire.specs.declared.codes.Width.{Width}
use Rattle.wire.specs.declared.codes.TextType.{TextType}
use Rattle.wire.specs.declared.codes.Operator.{Operator}
use Rattle.wire.specs.declared.codes.Statistic.{Statistic}
use Rattle.wire.specs.declared.codes.Comparison.{Comparison}
use Rattle.wire.specs.declared.codes.TextSearch.{TextSearch}
use Rattle.wire.specs.declared.codes.Connective.{Connective}
use Rattle.wire.specs.declared.codes.Quantifier.{Quantifier}
use Rattle.wire.specs.declared.codes.Direction.{Direction}
use Rattle.dictionary.specs.Naming.{Name}

-- 01: "Descriptors: short 7 and long 8, each with a signed scale byte ..; date 35 ..; text 14, varying 37, cstring 40, each with a word n";
-- 02, No. 8: "type 16, a 64-bit integer of 8 bytes"
pub data Descriptor : Type 0 where
  number : Width → ℕ → Descriptor
  date : Descriptor
  text : TextType → ℕ → Descriptor

-- 01: "Message: 4, number byte, count word, descriptors."
pub record Message : Type 0 where
  pub number : ℕ
  pub descriptors : List Descriptor

-- 01: "Stream: relation 74, counted name, ctx; or rid 75, id word, ctx."
pub record Stream : Type 0 where
  pub relation : Name
  pub context : ℕ

-- 01: "literal 21 (short: scale, word; long: scale, four bytes; text: word n, n bytes)"
pub data Literal : Type 0 where
  number : Width → ℕ → ℕ → Literal
  text : List ℕ → Literal

-- what a value or a target names; 01: "field 23 ctx, counted name; fid 24 ctx, word; parameter 25 msg, word; parameter2 41 msg, word,
-- flag word of that message"
pub data Reference : Type 0 where
  field : ℕ → Name → Reference
  parameter : ℕ → ℕ → Reference
  parameter2 : ℕ → ℕ → ℕ → Reference

-- what stands before a statement that is part of another; 01: "loop 9 s; modify 10 from-ctx to-ctx s; handler 11 s; receive 12 msg s;
-- send 14 msg s; store 15 stream s; label 17 n s"
pub data Heading : Type 0 where
  loop : Heading
  modify : ℕ → ℕ → Heading
  handler : Heading
  receive : ℕ → Heading
  send : ℕ → Heading
  store : Stream → Heading
  label : ℕ → Heading

mutual
  pub data Value : Type 0 where
    literal : Literal → Value
    reference : Reference → Value
    arithmetic : Operator → Value → Value → Value
    negate : Value → Value
    -- 02, No. 9: "average 27, maximum 29, minimum 30 and total 31 with an rse of one stream and a number, and count 28 with an rse only"
    statistic : Statistic → Rse → Value → Value
    count : Rse → Value

  pub data Boolean : Type 0 where
    compare : Comparison → Value → Value → Boolean
    search : TextSearch → Value → Value → Boolean
    between : Value → Value → Value → Boolean
    connect : Connective → Boolean → Boolean → Boolean
    not : Boolean → Boolean
    missing : Value → Boolean
    -- 02, No. 4: "any 60 and unique 62, each with an rse of one stream"
    quantify : Quantifier → Rse → Boolean

  -- the values of a sort, each with its direction
  pub data Keys : Type 0 where
    no_keys : Keys
    key : Direction → Value → Keys → Keys

  -- the clauses of an rse
  pub data Clauses : Type 0 where
    no_clauses : Clauses
    such : Boolean → Clauses → Clauses
    sorted : Keys → Clauses → Clauses

  pub data Rse : Type 0 where
    rse : List Stream → Clauses → Rse

  pub data Statement : Type 0 where
    assignment : Value → Reference → Statement
    begin : Statements → Statement
    erase : ℕ → Statement
    for : Rse → Statement → Statement
    headed : Heading → Statement → Statement
    leave : ℕ → Statement
    if : Boolean → Statement → Statement
    if_else : Boolean → Statement → Statement → Statement
    select : Receives → Statement

  pub data Statements : Type 0 where
    none : Statements
    ◌then◌ : Statement → Statements → Statements

  -- the receive statements of a select, one or more: a message and a statement each
  pub data Receives : Type 0 where
    last : ℕ → Statement → Receives
    more : ℕ → Statement → Receives → Receives

infixr 5 ◌then◌
-- 01: "Request: 4 (version), begin 2, messages, statements, end 255, eoc 76, nothing more."; 02, No. 8: "Version 5 beside version 4."
pub record Request : Type 0 where
  pub version : Version
  pub messages : List Message
  pub statements : Statements
