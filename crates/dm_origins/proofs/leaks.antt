mod Leaked
