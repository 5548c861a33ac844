mod Adopted
