-- Worked texts: what is said of their bytes.
use Rattle.std.specs.Prelude.{◌≡◌, ℕ, List, ◌∷◌, ◌++◌, codes}
use Rattle.dump_rules.specs.Judged.{judged_text}

-- bytes, what is printed of them, and the status
pub record JudgedText : Type 0 where
  pub bytes : List ℕ
  pub text : List ℕ
  pub status : ℕ

-- this is said of the bytes
abbrev pub IsSaid : JudgedText → Type 0
IsSaid row = judged_text row.bytes ≡ record { text = row.text; status = row.status }

-- all is right
abbrev pub check_ok : JudgedText
check_ok = record {
  bytes = codes "{\"current\":1,\"hashing\":\"stated\",\"nodes\":[{\"held\":[],\"pieces\":[{\"entries\":[],\"from\":\"\",\"range\":\"0+4294967296\",\"state\":\"settled\"}],\"ring\":[[0,\"10.0.0.1:1000@1\",0]],\"seen\":1,\"silo\":\"10.0.0.1:1000@1\"}],\"points\":30,\"rows\":[{\"dead\":0,\"joined\":1,\"left\":0,\"places\":[0],\"silo\":\"10.0.0.1:1000@1\"}]}\n";
  text = codes "check ok\n";
  status = 0;
}

-- the last brace is missing: no value
abbrev pub check_cut : JudgedText
check_cut = record {
  bytes = codes "{\"current\":1,\"hashing\":\"stated\",\"nodes\":[{\"held\":[],\"pieces\":[{\"entries\":[],\"from\":\"\",\"range\":\"0+4294967296\",\"state\":\"settled\"}],\"ring\":[[0,\"10.0.0.1:1000@1\",0]],\"seen\":1,\"silo\":\"10.0.0.1:1000@1\"}],\"points\":30,\"rows\":[{\"dead\":0,\"joined\":1,\"left\":0,\"places\":[0],\"silo\":\"10.0.0.1:1000@1\"}]";
  text = codes "check 971\n";
  status = 1;
}

-- a member that no dump has
abbrev pub check_extra_member : JudgedText
check_extra_member = record {
  bytes = codes "{\"current\":1,\"hashing\":\"stated\",\"nodes\":[{\"held\":[],\"pieces\":[{\"entries\":[],\"from\":\"\",\"range\":\"0+4294967296\",\"state\":\"settled\"}],\"ring\":[[0,\"10.0.0.1:1000@1\",0]],\"seen\":1,\"silo\":\"10.0.0.1:1000@1\"}],\"extra\":0,\"points\":30,\"rows\":[{\"dead\":0,\"joined\":1,\"left\":0,\"places\":[0],\"silo\":\"10.0.0.1:1000@1\"}]}";
  text = codes "check 972\n";
  status = 1;
}

-- a silo has seen a version that isn't made
abbrev pub check_seen_above_current : JudgedText
check_seen_above_current = record {
  bytes = codes "{\"current\":1,\"hashing\":\"stated\",\"nodes\":[{\"held\":[],\"pieces\":[{\"entries\":[],\"from\":\"\",\"range\":\"0+4294967296\",\"state\":\"settled\"}],\"ring\":[[0,\"10.0.0.1:1000@1\",0]],\"seen\":2,\"silo\":\"10.0.0.1:1000@1\"}],\"points\":30,\"rows\":[{\"dead\":0,\"joined\":1,\"left\":0,\"places\":[0],\"silo\":\"10.0.0.1:1000@1\"}]}";
  text = codes "check 972\n";
  status = 1;
}

-- a ring that isn't that of its view
abbrev pub check_ring : JudgedText
check_ring = record {
  bytes = codes "{\"current\":1,\"hashing\":\"stated\",\"nodes\":[{\"held\":[],\"pieces\":[{\"entries\":[],\"from\":\"\",\"range\":\"0+4294967296\",\"state\":\"settled\"}],\"ring\":[[1,\"10.0.0.1:1000@1\",0]],\"seen\":1,\"silo\":\"10.0.0.1:1000@1\"}],\"points\":30,\"rows\":[{\"dead\":0,\"joined\":1,\"left\":0,\"places\":[0],\"silo\":\"10.0.0.1:1000@1\"}]}";
  text = codes "check 973 10.0.0.1:1000@1\n";
  status = 1;
}

-- a piece that lacks a hash
abbrev pub check_range : JudgedText
check_range = record {
  bytes = codes "{\"current\":1,\"hashing\":\"stated\",\"nodes\":[{\"held\":[],\"pieces\":[{\"entries\":[],\"from\":\"\",\"range\":\"0+4294967295\",\"state\":\"settled\"}],\"ring\":[[0,\"10.0.0.1:1000@1\",0]],\"seen\":1,\"silo\":\"10.0.0.1:1000@1\"}],\"points\":30,\"rows\":[{\"dead\":0,\"joined\":1,\"left\":0,\"places\":[0],\"silo\":\"10.0.0.1:1000@1\"}]}";
  text = codes "check 977 10.0.0.1:1000@1\n";
  status = 1;
}

-- a firm activation without an entry
abbrev pub check_missing_firm : JudgedText
check_missing_firm = record {
  bytes = codes "{\"current\":1,\"hashing\":\"stated\",\"nodes\":[{\"held\":[{\"activation\":\"10.0.0.1:1000@1!1\",\"grain\":\"user/z#1\",\"phase\":\"firm\"}],\"pieces\":[{\"entries\":[],\"from\":\"\",\"range\":\"0+4294967296\",\"state\":\"settled\"}],\"ring\":[[0,\"10.0.0.1:1000@1\",0]],\"seen\":1,\"silo\":\"10.0.0.1:1000@1\"}],\"points\":30,\"rows\":[{\"dead\":0,\"joined\":1,\"left\":0,\"places\":[0],\"silo\":\"10.0.0.1:1000@1\"}]}";
  text = codes "check 974 user/z#1\n";
  status = 1;
}

-- an asking activation needs no entry
abbrev pub check_asking : JudgedText
check_asking = record {
  bytes = codes "{\"current\":1,\"hashing\":\"stated\",\"nodes\":[{\"held\":[{\"activation\":\"10.0.0.1:1000@1!1\",\"grain\":\"user/z#1\",\"phase\":\"asking\"}],\"pieces\":[{\"entries\":[],\"from\":\"\",\"range\":\"0+4294967296\",\"state\":\"settled\"}],\"ring\":[[0,\"10.0.0.1:1000@1\",0]],\"seen\":1,\"silo\":\"10.0.0.1:1000@1\"}],\"points\":30,\"rows\":[{\"dead\":0,\"joined\":1,\"left\":0,\"places\":[0],\"silo\":\"10.0.0.1:1000@1\"}]}";
  text = codes "check ok\n";
  status = 0;
}

-- an entry of an activation that nobody holds
abbrev pub check_stranger : JudgedText
check_stranger = record {
  bytes = codes "{\"current\":1,\"hashing\":\"stated\",\"nodes\":[{\"held\":[],\"pieces\":[{\"entries\":[[\"user/z#1\",\"10.0.0.1:1000@1!1\"]],\"from\":\"\",\"range\":\"0+4294967296\",\"state\":\"settled\"}],\"ring\":[[0,\"10.0.0.1:1000@1\",0]],\"seen\":1,\"silo\":\"10.0.0.1:1000@1\"}],\"points\":30,\"rows\":[{\"dead\":0,\"joined\":1,\"left\":0,\"places\":[0],\"silo\":\"10.0.0.1:1000@1\"}]}";
  text = codes "check 975 user/z#1\n";
  status = 1;
}

-- a grain is firm on two silos
abbrev pub check_two_firm : JudgedText
check_two_firm = record {
  bytes = codes "{\"current\":2,\"hashing\":\"stated\",\"nodes\":[{\"held\":[{\"activation\":\"10.0.0.1:1000@1!1\",\"grain\":\"user/z#1\",\"phase\":\"firm\"}],\"pieces\":[{\"entries\":[[\"user/z#1\",\"10.0.0.1:1000@1!1\"]],\"from\":\"\",\"range\":\"0+2147483648\",\"state\":\"settled\"}],\"ring\":[[0,\"10.0.0.1:1000@1\",0],[2147483648,\"10.0.0.2:1000@1\",0]],\"seen\":2,\"silo\":\"10.0.0.1:1000@1\"},{\"held\":[{\"activation\":\"10.0.0.2:1000@1!1\",\"grain\":\"user/z#1\",\"phase\":\"firm\"}],\"pieces\":[{\"entries\":[],\"from\":\"\",\"range\":\"2147483648+2147483648\",\"state\":\"settled\"}],\"ring\":[[0,\"10.0.0.1:1000@1\",0],[2147483648,\"10.0.0.2:1000@1\",0]],\"seen\":2,\"silo\":\"10.0.0.2:1000@1\"}],\"points\":30,\"rows\":[{\"dead\":0,\"joined\":1,\"left\":0,\"places\":[0],\"silo\":\"10.0.0.1:1000@1\"},{\"dead\":0,\"joined\":2,\"left\":0,\"places\":[2147483648],\"silo\":\"10.0.0.2:1000@1\"}]}\n";
  text = codes "check 976 user/z#1\n";
  status = 1;
}

-- a node of a Dead silo is passed over
abbrev pub check_passes_over_the_dead : JudgedText
check_passes_over_the_dead = record {
  bytes = codes "{\"current\":3,\"hashing\":\"stated\",\"nodes\":[{\"held\":[{\"activation\":\"10.0.0.1:1000@1!1\",\"grain\":\"user/z#1\",\"phase\":\"firm\"}],\"pieces\":[{\"entries\":[[\"user/z#1\",\"10.0.0.1:1000@1!1\"]],\"from\":\"\",\"range\":\"0+2147483648\",\"state\":\"settled\"},{\"entries\":[],\"from\":\"\",\"range\":\"2147483648+2147483648\",\"state\":\"settled\"}],\"ring\":[[0,\"10.0.0.1:1000@1\",0]],\"seen\":3,\"silo\":\"10.0.0.1:1000@1\"},{\"held\":[{\"activation\":\"10.0.0.2:1000@1!1\",\"grain\":\"user/z#1\",\"phase\":\"firm\"}],\"pieces\":[{\"entries\":[],\"from\":\"\",\"range\":\"2147483648+2147483648\",\"state\":\"settled\"}],\"ring\":[[0,\"10.0.0.1:1000@1\",0],[2147483648,\"10.0.0.2:1000@1\",0]],\"seen\":2,\"silo\":\"10.0.0.2:1000@1\"}],\"points\":30,\"rows\":[{\"dead\":0,\"joined\":1,\"left\":0,\"places\":[0],\"silo\":\"10.0.0.1:1000@1\"},{\"dead\":3,\"joined\":2,\"left\":0,\"places\":[2147483648],\"silo\":\"10.0.0.2:1000@1\"}]}\n";
  text = codes "check ok\n";
  status = 0;
}

-- ---- Any spacing is read, any order of members, and of a member that stands twice the last.
-- nobody has joined yet
abbrev pub nobody_joined : JudgedText
nobody_joined = record { bytes = codes "{\"current\":0,\"hashing\":\"stated\",\"nodes\":[],\"points\":30,\"rows\":[]}"; text = codes "check ok\n"; status = 0 }

-- with spaces and line ends
abbrev pub spaced : JudgedText
spaced = record { bytes = codes " {\n\"current\" : 0 ,\t\"hashing\":\"stated\", \"nodes\":[ ],\r\n\"points\":30,\"rows\": [] } \n"; text = codes "check ok\n"; status = 0 }

-- its members in another order
abbrev pub another_order : JudgedText
another_order = record { bytes = codes "{\"rows\":[],\"points\":30,\"nodes\":[],\"hashing\":\"stated\",\"current\":0}"; text = codes "check ok\n"; status = 0 }

-- a letter of a word as an escape
abbrev pub escaped_letter : JudgedText
escaped_letter = record { bytes = codes "{\"current\":0,\"hashing\":\"st\\u0061ted\",\"nodes\":[],\"points\":30,\"rows\":[]}"; text = codes "check ok\n"; status = 0 }

-- a member that stands twice, the last of them well
abbrev pub member_twice : JudgedText
member_twice = record { bytes = codes "{\"current\":\"none\",\"current\":0,\"hashing\":\"stated\",\"nodes\":[],\"points\":30,\"rows\":[]}"; text = codes "check ok\n"; status = 0 }

-- a member that stands twice, the last of them of another type
abbrev pub member_twice_amiss : JudgedText
member_twice_amiss = record { bytes = codes "{\"current\":0,\"current\":\"none\",\"hashing\":\"stated\",\"nodes\":[],\"points\":30,\"rows\":[]}"; text = codes "check 972\n"; status = 1 }

-- ---- A member that is missing, of another type or unreadable makes a value no dump.
-- no rows
abbrev pub member_missing : JudgedText
member_missing = record { bytes = codes "{\"current\":0,\"hashing\":\"stated\",\"nodes\":[],\"points\":30}"; text = codes "check 972\n"; status = 1 }

-- as many members, one of them under another name
abbrev pub member_misnamed : JudgedText
member_misnamed = record { bytes = codes "{\"current\":0,\"hashing\":\"stated\",\"nodes\":[],\"points\":30,\"row\":[]}"; text = codes "check 972\n"; status = 1 }

-- a text for a number
abbrev pub text_for_number : JudgedText
text_for_number = record { bytes = codes "{\"current\":\"0\",\"hashing\":\"stated\",\"nodes\":[],\"points\":30,\"rows\":[]}"; text = codes "check 972\n"; status = 1 }

-- a number with a point
abbrev pub with_point : JudgedText
with_point = record { bytes = codes "{\"current\":0,\"hashing\":\"stated\",\"nodes\":[],\"points\":30.0,\"rows\":[]}"; text = codes "check 972\n"; status = 1 }

-- a number with an exponent
abbrev pub with_exponent : JudgedText
with_exponent = record { bytes = codes "{\"current\":0,\"hashing\":\"stated\",\"nodes\":[],\"points\":3e1,\"rows\":[]}"; text = codes "check 972\n"; status = 1 }

-- a number with a sign
abbrev pub minus_nought : JudgedText
minus_nought = record { bytes = codes "{\"current\":-0,\"hashing\":\"stated\",\"nodes\":[],\"points\":30,\"rows\":[]}"; text = codes "check 972\n"; status = 1 }

-- 2^64
abbrev pub number_too_high : JudgedText
number_too_high = record { bytes = codes "{\"current\":18446744073709551616,\"hashing\":\"stated\",\"nodes\":[],\"points\":30,\"rows\":[]}"; text = codes "check 972\n"; status = 1 }

-- a word for another hash
abbrev pub unknown_word : JudgedText
unknown_word = record { bytes = codes "{\"current\":0,\"hashing\":\"sha1\",\"nodes\":[],\"points\":30,\"rows\":[]}"; text = codes "check 972\n"; status = 1 }

-- a silo with a leading zero in its port
abbrev pub unreadable_silo : JudgedText
unreadable_silo = record { bytes = codes "{\"current\":1,\"hashing\":\"stated\",\"nodes\":[],\"points\":30,\"rows\":[{\"dead\":0,\"joined\":1,\"left\":0,\"places\":[0],\"silo\":\"10.0.0.1:01000@1\"}]}"; text = codes "check 972\n"; status = 1 }

-- a range without its size
abbrev pub unreadable_range : JudgedText
unreadable_range = record { bytes = codes "{\"current\":1,\"hashing\":\"stated\",\"nodes\":[{\"held\":[],\"pieces\":[{\"entries\":[],\"from\":\"\",\"range\":\"0+\",\"state\":\"settled\"}],\"ring\":[[0,\"10.0.0.1:1000@1\",0]],\"seen\":1,\"silo\":\"10.0.0.1:1000@1\"}],\"points\":30,\"rows\":[{\"dead\":0,\"joined\":1,\"left\":0,\"places\":[0],\"silo\":\"10.0.0.1:1000@1\"}]}"; text = codes "check 972\n"; status = 1 }

-- a point of a ring that lacks its index
abbrev pub point_of_two : JudgedText
point_of_two = record { bytes = codes "{\"current\":1,\"hashing\":\"stated\",\"nodes\":[{\"held\":[],\"pieces\":[{\"entries\":[],\"from\":\"\",\"range\":\"0+4294967296\",\"state\":\"settled\"}],\"ring\":[[0,\"10.0.0.1:1000@1\"]],\"seen\":1,\"silo\":\"10.0.0.1:1000@1\"}],\"points\":30,\"rows\":[{\"dead\":0,\"joined\":1,\"left\":0,\"places\":[0],\"silo\":\"10.0.0.1:1000@1\"}]}"; text = codes "check 972\n"; status = 1 }

-- another value
abbrev pub no_object : JudgedText
no_object = record { bytes = codes "[]"; text = codes "check 972\n"; status = 1 }

-- ---- Bytes that tell no value.
-- nothing
abbrev pub no_bytes : JudgedText
no_bytes = record { bytes = codes ""; text = codes "check 971\n"; status = 1 }

-- a word
abbrev pub no_json : JudgedText
no_json = record { bytes = codes "dump"; text = codes "check 971\n"; status = 1 }

-- two values
abbrev pub two_values : JudgedText
two_values = record { bytes = codes "{} {}"; text = codes "check 971\n"; status = 1 }

-- a comma behind the last member
abbrev pub comma_at_end : JudgedText
comma_at_end = record { bytes = codes "{\"current\":0,}"; text = codes "check 971\n"; status = 1 }

-- a text that is not UTF-8
abbrev pub no_utf8 : JudgedText
no_utf8 = record { bytes = codes "\"" ++ (255 ∷ codes "\""); text = codes "check 971\n"; status = 1 }
