mod HighestMember
