mod Healings
