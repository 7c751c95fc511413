-- The codes of document 01 by their names in blr.h: `blr_assignment` there is `blr.assignment` where this module is used as `blr`.
-- A number may stand for several things, each at its own kind of place.
use Rattle.std.specs.Prelude.{ℕ}

-- Version and ends.
abbrev pub version4 : ℕ
version4 = 4

-- 02, No. 8: "Version 5 beside version 4."
abbrev pub version5 : ℕ
version5 = 5

abbrev pub eoc : ℕ
eoc = 76

abbrev pub end : ℕ
end = 255

-- Messages and statements.
abbrev pub assignment : ℕ
assignment = 1

abbrev pub begin : ℕ
begin = 2

abbrev pub message : ℕ
message = 4

abbrev pub erase : ℕ
erase = 5

abbrev pub for : ℕ
for = 7

abbrev pub if : ℕ
if = 8

abbrev pub loop : ℕ
loop = 9

abbrev pub modify : ℕ
modify = 10

abbrev pub handler : ℕ
handler = 11

abbrev pub receive : ℕ
receive = 12

abbrev pub select : ℕ
select = 13

abbrev pub send : ℕ
send = 14

abbrev pub store : ℕ
store = 15

abbrev pub label : ℕ
label = 17

abbrev pub leave : ℕ
leave = 18

-- Statements left out.
abbrev pub dcl_variable : ℕ
dcl_variable = 3

abbrev pub fetch : ℕ
fetch = 6

abbrev pub store2 : ℕ
store2 = 19

abbrev pub post : ℕ
post = 20

-- Values.
abbrev pub literal : ℕ
literal = 21

abbrev pub field : ℕ
field = 23

abbrev pub fid : ℕ
fid = 24

abbrev pub parameter : ℕ
parameter = 25

abbrev pub add : ℕ
add = 34

abbrev pub subtract : ℕ
subtract = 35

abbrev pub multiply : ℕ
multiply = 36

abbrev pub divide : ℕ
divide = 37

abbrev pub negate : ℕ
negate = 38

abbrev pub parameter2 : ℕ
parameter2 = 41

-- 02, No. 9: "average 27, maximum 29, minimum 30 and total 31 with an rse of one stream and a number, and count 28 with an rse only"
abbrev pub average : ℕ
average = 27

abbrev pub count : ℕ
count = 28

abbrev pub maximum : ℕ
maximum = 29

abbrev pub minimum : ℕ
minimum = 30

abbrev pub total : ℕ
total = 31

-- Values left out.
abbrev pub dbkey : ℕ
dbkey = 22

abbrev pub variable : ℕ
variable = 26

abbrev pub concatenate : ℕ
concatenate = 39

abbrev pub substring : ℕ
substring = 40

abbrev pub from : ℕ
from = 42

abbrev pub via : ℕ
via = 43

abbrev pub user_name : ℕ
user_name = 44

abbrev pub null : ℕ
null = 45

-- Booleans.
abbrev pub eql : ℕ
eql = 47

abbrev pub neq : ℕ
neq = 48

abbrev pub gtr : ℕ
gtr = 49

abbrev pub geq : ℕ
geq = 50

abbrev pub lss : ℕ
lss = 51

abbrev pub leq : ℕ
leq = 52

abbrev pub containing : ℕ
containing = 53

abbrev pub matching : ℕ
matching = 54

abbrev pub starting : ℕ
starting = 55

abbrev pub between : ℕ
between = 56

abbrev pub or : ℕ
or = 57

abbrev pub and : ℕ
and = 58

abbrev pub not : ℕ
not = 59

abbrev pub missing : ℕ
missing = 61

-- 02, No. 4: "any 60 and unique 62"
abbrev pub any : ℕ
any = 60

abbrev pub unique : ℕ
unique = 62

-- Booleans left out.
abbrev pub like : ℕ
like = 63

-- Rses, clauses and streams.
abbrev pub rse : ℕ
rse = 67

abbrev pub sort : ℕ
sort = 70

abbrev pub boolean : ℕ
boolean = 71

abbrev pub ascending : ℕ
ascending = 72

abbrev pub descending : ℕ
descending = 73

abbrev pub relation : ℕ
relation = 74

abbrev pub rid : ℕ
rid = 75

-- Clauses and streams left out.
abbrev pub first : ℕ
first = 68

abbrev pub project : ℕ
project = 69

abbrev pub union : ℕ
union = 76

abbrev pub aggregate : ℕ
aggregate = 79

-- Types.
abbrev pub short : ℕ
short = 7

abbrev pub long : ℕ
long = 8

-- 02, No. 8: "type 16, a 64-bit integer of 8 bytes"
abbrev pub int64 : ℕ
int64 = 16

abbrev pub text : ℕ
text = 14

abbrev pub date : ℕ
date = 35

abbrev pub varying : ℕ
varying = 37

abbrev pub cstring : ℕ
cstring = 40

-- Types left out.
abbrev pub quad : ℕ
quad = 9

abbrev pub float : ℕ
float = 10

abbrev pub d_float : ℕ
d_float = 11

abbrev pub double : ℕ
double = 27

-- 01: "Type 200 is a house reading".
abbrev pub house_reading : ℕ
house_reading = 200
